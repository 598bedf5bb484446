-- What a reader holds, and what is ahead of it.
use Rattle.std.proofs.Common.{◌≡◌, ℕ, ◌≤◌, ◌<◌, List, [], ◌++◌, length, take, drop, Option, Some, None, refl, sym, ap, subst, ◌∙◌, arith, inl, inr, append-nil, length-append}
use Rattle.std.specs.Prelude.{Ok, Err, IfSome}
use Rattle.std.specs.Option.{option_map}
use Rattle.std.proofs.lemmas.List.{append_assoc, nil_from_length, take-append-drop, length-take-le}
use Rattle.nz_frame.specs.Grammar.{AreBytes}
use Rattle.nz_frame.proofs.Bytes.{AreBytes-take}
use Rattle.nz_lane.specs.declared.item.Item.{Item}
use Rattle.nz_lane.specs.declared.item.ItemRefusal.{ItemRefusal}
use Rattle.nz_lane.specs.declared.item.ItemRefusal.TheVariants.{Cut}
use Rattle.nz_lane.specs.Items.{spelling}
use Rattle.nz_lane.specs.Reading.{wanted, item_of, item_at}
use Rattle.nz_lane.specs.Streams.{Held, ahead}
use Rattle.nz_lane.specs.Stops.{IsSettledBy}
use Rattle.nz_lane.proofs.Sizes.{size_known, wanted_own, item_whole, item_stays}
use Rattle.nz_lane.proofs.Read.{IsSpelled, own_item, cut_at}

-- nothing is ahead where nothing is held and nothing comes
pub at_end : (held : Held) (left : Option (List ℕ)) → length held.bytes ≡ 0 → IsSettledBy held left → IfSome (ahead held left) (λ rest. rest ≡ [])
at_end held left none (inl whole) = absurd (omega (arith, none, whole, (size_known held.bytes).least))
at_end held None none (inr e) = tt
at_end held (Some rest) none (inr e) = λ i. nil_from_length held.bytes none i ++ e i

-- the bytes begin no item, for this reason
abbrev pub Refuses : ItemRefusal → List ℕ → Type 0
Refuses why bytes = (0 < length bytes) × (item_at bytes ≡ Err why)

-- where the input ends within an item
pub cut_ahead : (held : Held) (left : Option (List ℕ)) → 0 < length held.bytes → length held.bytes < wanted held.bytes → IsSettledBy held left
    → IfSome (ahead held left) (Refuses Cut)
cut_ahead held left some few (inl whole) = absurd (omega (arith, few, whole))
cut_ahead held None some few (inr e) = tt
cut_ahead held (Some rest) some few (inr e) =
    let all : held.bytes ++ rest ≡ held.bytes = ap (λ (xs : List ℕ). held.bytes ++ xs) e ∙ append-nil held.bytes in
    subst (Refuses Cut) (sym all) (some, cut_at held.bytes few)

-- what is refused of a whole item is refused of all that is ahead
pub refused_ahead : (held : Held) (left : Option (List ℕ)) (why : ItemRefusal) → wanted held.bytes ≤ length held.bytes
    → item_of (take (wanted held.bytes) held.bytes) ≡ Err why → IfSome (ahead held left) (Refuses why)
refused_ahead held None why whole e = tt
refused_ahead held (Some rest) why whole e =
    (omega (arith, whole, (size_known held.bytes).least, length-append held.bytes rest), item_stays held.bytes rest whole ∙ item_whole held.bytes whole ∙ e)

-- the bytes that are taken out
pub record Taken (bytes own : List ℕ) (size : ℕ) : Type 0 where
  pub wanted_is : size ≡ wanted bytes
  pub whole : size ≤ length bytes
  pub own_is : own ≡ take size bytes
  pub are_bytes : AreBytes bytes

pub taken_by : (bytes own slice : List ℕ) (size len : ℕ) → slice ≡ bytes → size ≡ wanted slice → AreBytes slice → len ≡ length bytes
    → size ≤ len → own ≡ take size bytes → Taken bytes own size
taken_by bytes own slice size len same size_is are_bytes long whole own_is = record {
  wanted_is = size_is ∙ ap wanted same;
  whole = omega (arith, whole, long);
  own_is = own_is;
  are_bytes = subst AreBytes same are_bytes;
}

pub taken_wanted : (bytes own : List ℕ) (size : ℕ) → Taken bytes own size → wanted own ≡ length own
taken_wanted bytes own size t =
    let is : own ≡ take (wanted bytes) bytes = t.own_is ∙ ap (λ (n : ℕ). take n bytes) t.wanted_is in
    ap wanted is ∙ wanted_own bytes (omega (arith, t.whole, t.wanted_is)) ∙ ap length (sym is)

pub taken_item : (bytes own : List ℕ) (size : ℕ) (item : Item) → Taken bytes own size → item_of own ≡ Ok item → IsSpelled item own
taken_item bytes own size item t e =
    own_item own item (subst AreBytes (sym t.own_is) (AreBytes-take size bytes t.are_bytes)) (taken_wanted bytes own size t) e

pub taken_size : (bytes own : List ℕ) (size : ℕ) (item : Item) → Taken bytes own size → item_of own ≡ Ok item → size ≡ length (spelling item)
taken_size bytes own size item t e = sym (length-take-le size bytes t.whole) ∙ ap length (sym t.own_is) ∙ ap length (taken_item bytes own size item t e).is

pub taken_ahead : (bytes own kept : List ℕ) (size : ℕ) (item : Item) (p q : ℕ) (left : Option (List ℕ)) → Taken bytes own size → item_of own ≡ Ok item
    → kept ≡ drop size bytes
    → ahead (record { bytes = bytes; place = p }) left ≡ option_map (λ rest. spelling item ++ rest) (ahead (record { bytes = kept; place = q }) left)
taken_ahead bytes own kept size item p q None t e k = refl
taken_ahead bytes own kept size item p q (Some rest) t e k =
    let is = (taken_item bytes own size item t e).is in
    let parts : bytes ≡ spelling item ++ kept =
    sym (take-append-drop size bytes) ∙ (λ i. (sym t.own_is ∙ is) i ++ sym k i) in
    ap Some (ap (λ (xs : List ℕ). xs ++ rest) parts ∙ append_assoc (spelling item) kept rest)

pub taken_refusal : (bytes own : List ℕ) (size p : ℕ) (why : ItemRefusal) (left : Option (List ℕ)) → Taken bytes own size → item_of own ≡ Err why
    → IfSome (ahead (record { bytes = bytes; place = p }) left) (Refuses why)
taken_refusal bytes own size p why left t e =
    let is : take (wanted bytes) bytes ≡ own = ap (λ (n : ℕ). take n bytes) (sym t.wanted_is) ∙ sym t.own_is in
    refused_ahead (record { bytes = bytes; place = p }) left why (omega (arith, t.whole, t.wanted_is)) (ap item_of is ∙ e)
