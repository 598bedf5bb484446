-- A parcel that was sent has a source, and the source record sends it.
use Rattle.std.proofs.Common.{◌≡◌, ℕ, Bool, true, false, cond, eqb, ◌&&◌, List, [], ◌∷◌, Option}
use Rattle.std.proofs.Common.{Some, None, refl, sym, ap, ◌∙◌, inl, inr, ◌⊎◌, eq-eqb, eqb-true}
use Rattle.std.proofs.lemmas.Bool.{and_parts, or_cases, or_left, or_right}
use Rattle.std.specs.List.{list_any}
use Rattle.std.specs.Option.{option_eq}
use Rattle.std.specs.Str.{bytes_eq}
use Rattle.std.proofs.lemmas.Slice.Eq.{bytes_eq-Decides}
use Rattle.std.proofs.lemmas.Option.{none-some, same_Some}
use Rattle.nz_base.specs.Actor.{actor_eq}
use Rattle.nz_base.proofs.Names.{actor_eq_self, same_actor}
use Rattle.nz_base.specs.Moments.{At}
use Rattle.nz_base.proofs.Moments.{at_self}
use Rattle.nz_store.specs.declared.command.Answer.{Answer}
use Rattle.nz_store.specs.declared.command.Answer.TheVariants.{Done, Value, Absent, Differs}
use Rattle.nz_machine.specs.declared.event.Parcel.{Parcel}
use Rattle.nz_machine.specs.declared.event.Record.{Record}
use Rattle.nz_machine.specs.declared.reply.Reply.{Reply}
use Rattle.nz_machine.specs.declared.reply.Reply.TheVariants.{Fast, Slow}
use Rattle.nz_machine.specs.rules.Quorums.{answer_eq, reply_eq}
use Rattle.nz_machine.specs.runs.World.{sent_in, Has}
use Rattle.nz_machine.specs.runs.History.{parcel_eq, sends_it, older_or, source}
use Rattle.nz_machine.proofs.runs.Runs.{has_split}

-- ---- tests mean equality

same_bytes : (xs ys : List ℕ) → bytes_eq xs ys ≡ true → xs ≡ ys
same_bytes xs ys h = (bytes_eq-Decides xs ys).0 h

bytes_eq_self : (xs : List ℕ) → bytes_eq xs xs ≡ true
bytes_eq_self xs = (bytes_eq-Decides xs xs).1 refl

answer_eq_self : (a : Answer) → answer_eq a a ≡ true
answer_eq_self Done = refl
answer_eq_self (Value x) = bytes_eq_self x
answer_eq_self Absent = refl
answer_eq_self Differs = refl

same_answer : (a b : Answer) → answer_eq a b ≡ true → a ≡ b
same_answer Done Done h = refl
same_answer (Value x) (Value y) h = ap Value (same_bytes x y h)
same_answer Absent Absent h = refl
same_answer Differs Differs h = refl
same_answer _ _ h = absurd cc

choice_eq_self : (o : Option Answer) → option_eq answer_eq o o ≡ true
choice_eq_self None = refl
choice_eq_self (Some a) = answer_eq_self a

same_choice : (o p : Option Answer) → option_eq answer_eq o p ≡ true → o ≡ p
same_choice None None h = refl
same_choice (Some a) (Some b) h = ap Some (same_answer a b h)
same_choice None (Some b) h = absurd cc
same_choice (Some a) None h = absurd cc

pub reply_eq_self : (r : Reply) → reply_eq r r ≡ true
reply_eq_self (Fast r v d u a) = rw (eq-eqb r r refl, eq-eqb v v refl, bytes_eq_self d, bytes_eq_self u, choice_eq_self a) refl
reply_eq_self (Slow r v) = rw (eq-eqb r r refl, eq-eqb v v refl) refl

pub same_reply : (a b : Reply) → reply_eq a b ≡ true → a ≡ b
same_reply (Fast r v d u a) (Fast s w e x b) h =
    let p = (and_parts (eqb r s) (eqb v w && (bytes_eq d e && (bytes_eq u x && option_eq answer_eq a b))) h).1 in
    let q = (and_parts (eqb v w) (bytes_eq d e && (bytes_eq u x && option_eq answer_eq a b)) p).1 in
    let t = (and_parts (bytes_eq d e) (bytes_eq u x && option_eq answer_eq a b) q).1 in
    λ i. Fast (eqb-true r s (and_parts (eqb r s) (eqb v w && (bytes_eq d e && (bytes_eq u x && option_eq answer_eq a b))) h).0 i)
    (eqb-true v w (and_parts (eqb v w) (bytes_eq d e && (bytes_eq u x && option_eq answer_eq a b)) p).0 i)
    (same_bytes d e (and_parts (bytes_eq d e) (bytes_eq u x && option_eq answer_eq a b) q).0 i)
    (same_bytes u x (and_parts (bytes_eq u x) (option_eq answer_eq a b) t).0 i)
    (same_choice a b (and_parts (bytes_eq u x) (option_eq answer_eq a b) t).1 i)
same_reply (Slow r v) (Slow s w) h = λ i. Slow (eqb-true r s (and_parts (eqb r s) (eqb v w) h).0 i) (eqb-true v w (and_parts (eqb r s) (eqb v w) h).1 i)
same_reply _ _ h = absurd cc

pub parcel_eq_self : (p : Parcel) → parcel_eq p p ≡ true
parcel_eq_self p = rw (actor_eq_self p.from, actor_eq_self p.to, bytes_eq_self p.frame) refl

pub same_parcel : (p q : Parcel) → parcel_eq p q ≡ true → p ≡ q
same_parcel p q h =
    let b = (and_parts (actor_eq p.from q.from) (actor_eq p.to q.to && bytes_eq p.frame q.frame) h).1 in
    let from = same_actor p.from q.from (and_parts (actor_eq p.from q.from) (actor_eq p.to q.to && bytes_eq p.frame q.frame) h).0 in
    let to = same_actor p.to q.to (and_parts (actor_eq p.to q.to) (bytes_eq p.frame q.frame) b).0 in
    let frame = same_bytes p.frame q.frame (and_parts (actor_eq p.to q.to) (bytes_eq p.frame q.frame) b).1 in
    λ i. record { from = from i; to = to i; frame = frame i }

-- ---- the record that sends it first

pub has_any : (p : Parcel) (ps : List Parcel) → Has ps p → list_any (parcel_eq p) ps ≡ true
has_any p [] h = absurd h
has_any p (x ∷ ps) (inl e) = or_left (parcel_eq p x) (list_any (parcel_eq p) ps) (ap (parcel_eq p) e ∙ parcel_eq_self p)
has_any p (x ∷ ps) (inr h) = or_right (parcel_eq p x) (list_any (parcel_eq p) ps) (has_any p ps h)

pub any_has : (p : Parcel) (ps : List Parcel) → list_any (parcel_eq p) ps ≡ true → Has ps p
any_has p [] h = absurd cc
any_has p (x ∷ ps) h = elim (or_cases (parcel_eq p x) (list_any (parcel_eq p) ps) h) [ inl e ↦ inl (sym (same_parcel p x e)) | inr t ↦ inr (any_has p ps t) ]

older_found : (o : Option (List Record)) (now : List Record) → (K : List Record) × (older_or o now ≡ Some K)
older_found (Some K) now = (K, refl)
older_found None now = (now, refl)

older_cases : (o : Option (List Record)) (now K : List Record) → older_or o now ≡ Some K → (o ≡ Some K) ⊎ (now ≡ K)
older_cases (Some L) now K e = inl e
older_cases None now K e = inr (same_Some now K e)

-- an older moment is found first, whatever the test says of the newest record
found_before : (b : Bool) (o : Option (List Record)) (now K : List Record) → o ≡ Some K → cond b (older_or o now) o ≡ Some K
found_before true o now K e = ap (λ (x : Option (List Record)). older_or x now) e
found_before false o now K e = e

found_here : (b : Bool) (o : Option (List Record)) (now : List Record) → b ≡ true → (K : List Record) × (cond b (older_or o now) o ≡ Some K)
found_here b o now e = let k = older_found o now in (k.0, ap (λ t. cond t (older_or o now) o) e ∙ k.1)

found_cases : (b : Bool) (o : Option (List Record)) (now K : List Record) → cond b (older_or o now) o ≡ Some K → (o ≡ Some K) ⊎ ((b ≡ true) × (now ≡ K))
found_cases true o now K e = elim (older_cases o now K e) [ inl a ↦ inl a | inr c ↦ inr (refl, c) ]
found_cases false o now K e = inl e

pub source_stays : (p : Parcel) (r : Record) (J K : List Record) → source p J ≡ Some K → source p (r ∷ J) ≡ Some K
source_stays p r J K e = found_before (sends_it p r) (source p J) (r ∷ J) K e

pub has_source : (p : Parcel) (J : List Record) → Has (sent_in J) p → (K : List Record) × (source p J ≡ Some K)
has_source p [] h = absurd h
has_source p (r ∷ J) h = elim (has_split r.sends (sent_in J) p h) [
  | inl a ↦ found_here (sends_it p r) (source p J) (r ∷ J) (has_any p r.sends a)
  | inr b ↦ let k = has_source p J b in (k.0, source_stays p r J k.0 k.1)
]

-- the moment at which a record sends the parcel
pub record IsSource (p : Parcel) (J K : List Record) : Type 0 where
  pub newest : Record
  pub older : List Record
  pub is : K ≡ newest ∷ older
  pub at : At J (newest ∷ older)
  pub sends : Has newest.sends p

pub source_is : (p : Parcel) (J K : List Record) → source p J ≡ Some K → IsSource p J K
source_is p [] K e = absurd (none-some K e)
source_is p (r ∷ J) K e = elim (found_cases (sends_it p r) (source p J) (r ∷ J) K e) [
  | inl old ↦
      let s = source_is p J K old in
      record { newest = s.newest; older = s.older; is = s.is; at = inr s.at; sends = s.sends }
  | inr now ↦ record { newest = r; older = J; is = sym now.1; at = at_self (r ∷ J); sends = any_has p r.sends now.0 }
]
