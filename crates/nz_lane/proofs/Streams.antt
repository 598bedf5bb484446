-- A stream is one list of items alone.
use Rattle.std.proofs.Common.{◌≡◌, ℕ, List, [], ◌∷◌, ◌++◌, length, drop, flat_map, refl, sym, ap, ◌∙◌}
use Rattle.std.specs.Prelude.{Ok}
use Rattle.std.specs.List.{AllByRecursion}
use Rattle.std.proofs.lemmas.List.{append_assoc}
use Rattle.std.proofs.Math.Seq.{drop-append_seam}
use Rattle.nz_lane.specs.declared.item.Item.{Item}
use Rattle.nz_lane.specs.Items.{spelling, IsValidItem}
use Rattle.nz_lane.specs.Reading.{item_at}
use Rattle.nz_lane.specs.Streams.{BeginsNoItem, IsStream}
use Rattle.nz_lane.proofs.Spelled.{written}

pub same_item : (a b : Item) (x y : List ℕ) → IsValidItem a → IsValidItem b → spelling a ++ x ≡ spelling b ++ y → a ≡ b
same_item a b x y va vb e =
    let both : Ok a ≡ Ok b = sym (written a x va) ∙ ap item_at e ∙ written b y vb in
    cc

pub same_rest : (a b : Item) (x y : List ℕ) → IsValidItem a → IsValidItem b → spelling a ++ x ≡ spelling b ++ y → x ≡ y
same_rest a b x y va vb e =
    let e' : spelling a ++ x ≡ spelling a ++ y = e ∙ ap (λ (i : Item). spelling i ++ y) (sym (same_item a b x y va vb e)) in
    sym (drop-append_seam (spelling a) x) ∙ ap (drop (length (spelling a))) e' ∙ drop-append_seam (spelling a) y

-- two readings of a stream
pub record Same (items others : List Item) (rest end : List ℕ) : Type 0 where
  pub items_are : items ≡ others
  pub rest_is : rest ≡ end

-- bytes that begin no item are no stream that begins with one
never : (item : Item) (bytes rest : List ℕ) → IsValidItem item → BeginsNoItem rest → rest ≡ spelling item ++ bytes → ⊥
never item bytes rest valid none e = none item (ap item_at e ∙ written item bytes valid)

pub read_alike : (items others : List Item) (rest end : List ℕ) → AllByRecursion IsValidItem items → AllByRecursion IsValidItem others
    → BeginsNoItem rest → BeginsNoItem end → flat_map spelling items ++ rest ≡ flat_map spelling others ++ end → Same items others rest end
read_alike [] [] rest end va vb ha hb e = record { items_are = refl; rest_is = e }
read_alike [] (b ∷ others) rest end va vb ha hb e =
    absurd (never b (flat_map spelling others ++ end) rest vb.0 ha (e ∙ append_assoc (spelling b) (flat_map spelling others) end))
read_alike (a ∷ items) [] rest end va vb ha hb e =
    absurd (never a (flat_map spelling items ++ rest) end va.0 hb (sym e ∙ append_assoc (spelling a) (flat_map spelling items) rest))
read_alike (a ∷ items) (b ∷ others) rest end va vb ha hb e =
    let x = flat_map spelling items ++ rest in
    let y = flat_map spelling others ++ end in
    let both : spelling a ++ x ≡ spelling b ++ y =
    sym (append_assoc (spelling a) (flat_map spelling items) rest) ∙ e ∙ append_assoc (spelling b) (flat_map spelling others) end in
    let more = read_alike items others rest end va.1 vb.1 ha hb (same_rest a b x y va.0 vb.0 both) in
    record {
      items_are = λ i. same_item a b x y va.0 vb.0 both i ∷ more.items_are i;
      rest_is = more.rest_is;
    }

pub one_reading : (stream : List ℕ) (items others : List Item) (rest end : List ℕ) → IsStream stream items rest → IsStream stream others end
    → Same items others rest end
one_reading stream items others rest end h k = read_alike items others rest end h.valid k.valid h.ended k.ended (sym h.spelled ∙ k.spelled)
