-- The table's calls are those of the map.
use Rattle.std.proofs.Common.{◌≡◌, ℕ, Bool, true, false, cond, not, List, [], ◌∷◌, Option, Some, None, refl, sym, ap, subst, ◌∙◌}
use Rattle.std.specs.declared.cmp.Ordering.{Ordering}
use Rattle.std.specs.declared.cmp.Ordering.TheVariants.{Less, Equal, Greater}
use Rattle.std.specs.Ordering.{nat_cmp, is_eq, match_ordering}
use Rattle.std.specs.Cmp.Lexicographic.{slice_cmp, nat_list_cmp_total}
use Rattle.std.specs.List.{AllByRecursion}
use Rattle.std.specs.List.Sorted.{IsStrictlySortedBy}
use Rattle.std.specs.Str.{bytes_eq}
use Rattle.std.specs.Map.{lookup, remove_entry, set_value, keys_of}
use Rattle.std.specs.Global.{Vec}
use Rattle.std.specs.BTreeMap.{insert_entry, is_at}
use Rattle.std.proofs.lemmas.Map.Text.{is_eq-slice_cmp}
use Rattle.std.proofs.lemmas.Option.{none-some}
use Rattle.std.proofs.lemmas.Slice.Eq.{bytes_eq-Decides}
use Rattle.nz_store.specs.Entries.{Entries, value_of, with_value, without_key}
use Rattle.nz_store.specs.Table.{entries_of, table_key_cmp}

-- how the table looks some bytes up
abbrev pub compare : List ℕ → Vec ℕ → Ordering
compare key k = slice_cmp nat_cmp key k.items

pub looked_up : (es : List (Vec ℕ × List ℕ)) (key : List ℕ) → lookup (is_at (compare key)) es ≡ value_of (entries_of es) key
looked_up [] key = refl
looked_up (e ∷ es) key = rw (is_eq-slice_cmp key e.0.items) (ap (λ (o : Option (List ℕ)). cond (bytes_eq key e.0.items) (Some e.1) o) (looked_up es key))

-- An insertion into the sorted table gives the key its new value.
pub inserted : (es : List (Vec ℕ × List ℕ)) (key : Vec ℕ) (value : List ℕ)
    → entries_of (insert_entry table_key_cmp es key value) ≡ with_value (entries_of es) key.items value
inserted [] key value = refl
inserted (e ∷ es) key value =
    elim (table_key_cmp key e.0) as
    (λ (o : Ordering). entries_of (match_ordering o ((key, value) ∷ e ∷ es) ((e.0, value) ∷ es)
    (e ∷ insert_entry table_key_cmp es key value))
    ≡ match_ordering o ((key.items, value) ∷ entries_of (e ∷ es)) ((e.0.items, value) ∷ entries_of es)
    ((e.0.items, e.1) ∷ with_value (entries_of es) key.items value)) [
      | Less ↦ refl
      | Equal ↦ refl
      | Greater ↦ ap (λ (l : Entries). (e.0.items, e.1) ∷ l) (inserted es key value)
    ]

-- a key that is less than all has no value
none_below : (es : List (Vec ℕ × List ℕ)) (low key : List ℕ) → slice_cmp nat_cmp key low ≡ Less → AllByRecursion (λ k. compare low k ≡ Less) (keys_of es)
    → lookup (is_at (compare key)) es ≡ None
none_below [] low key l h = refl
none_below (e ∷ es) low key l h =
    let less : compare key e.0 ≡ Less = nat_list_cmp_total.trans key low e.0.items l h.0 in
    rw less (none_below es low key l h.1)

-- the value of a key that is there is replaced
pub replaced : (es : List (Vec ℕ × List ℕ)) (key value old : List ℕ) → IsStrictlySortedBy table_key_cmp (keys_of es)
    → lookup (is_at (compare key)) es ≡ Some old
    → entries_of (set_value (is_at (compare key)) es value) ≡ with_value (entries_of es) key value
unfolding IsStrictlySortedBy
replaced [] key value old h found = absurd (none-some old found)
replaced (e ∷ es) key value old h found =
    elim (compare key e.0) as
    (λ (o : Ordering). compare key e.0 ≡ o → cond (is_eq o) (Some e.1) (lookup (is_at (compare key)) es) ≡ Some old
    → entries_of (cond (is_eq o) ((e.0, value) ∷ es) (e ∷ set_value (is_at (compare key)) es value))
    ≡ match_ordering o ((key, value) ∷ entries_of (e ∷ es)) ((e.0.items, value) ∷ entries_of es)
    ((e.0.items, e.1) ∷ with_value (entries_of es) key value)) [
      | Less ↦ λ is there. absurd (none-some old (sym (none_below es e.0.items key is h.0) ∙ there))
      | Equal ↦ λ is there. refl
      | Greater ↦ λ is there. ap (λ (l : Entries). (e.0.items, e.1) ∷ l) (replaced es key value old h.1 there)
    ] refl found

-- entries at other keys stay
others_stay : (es : List (Vec ℕ × List ℕ)) (key : List ℕ) → AllByRecursion (λ k. compare key k ≡ Less) (keys_of es)
    → without_key (entries_of es) key ≡ entries_of es
others_stay [] key h = refl
others_stay (e ∷ es) key h =
    let other : bytes_eq key e.0.items ≡ false = sym (is_eq-slice_cmp key e.0.items) ∙ ap is_eq h.0 in
    rw other (ap (λ (l : Entries). (e.0.items, e.1) ∷ l) (others_stay es key h.1))

-- A removal from the sorted table takes the key out.
pub removed : (es : List (Vec ℕ × List ℕ)) (key : List ℕ) → IsStrictlySortedBy table_key_cmp (keys_of es)
    → entries_of (remove_entry (is_at (compare key)) es) ≡ without_key (entries_of es) key
unfolding IsStrictlySortedBy
removed [] key h = refl
removed (e ∷ es) key h =
    rw (is_eq-slice_cmp key e.0.items)
    (elim (bytes_eq key e.0.items) as
    (λ (b : Bool). bytes_eq key e.0.items ≡ b
    → entries_of (cond b es (e ∷ remove_entry (is_at (compare key)) es))
    ≡ cond (not b) ((e.0.items, e.1) ∷ without_key (entries_of es) key) (without_key (entries_of es) key)) [
      | true ↦ λ same.
          let key_is : key ≡ e.0.items = (bytes_eq-Decides key e.0.items).0 same in
          sym (others_stay es key (subst (λ (k : List ℕ). AllByRecursion (λ x. compare k x ≡ Less) (keys_of es)) (sym key_is) h.0))
      | false ↦ λ other. ap (λ (l : Entries). (e.0.items, e.1) ∷ l) (removed es key h.1)
    ] refl)
