-- A value that was set or removed is so at its key, and at no other.
use Rattle.std.proofs.Common.{◌≡◌, ℕ, Bool, true, false, cond, not, List, [], ◌∷◌, Option, Some, None, refl, sym, ap, subst, ◌∙◌}
use Rattle.std.specs.declared.cmp.Ordering.{Ordering}
use Rattle.std.specs.declared.cmp.Ordering.TheVariants.{Less, Equal, Greater}
use Rattle.std.specs.Ordering.{nat_cmp, is_eq, match_ordering, ordering_reverse}
use Rattle.std.specs.Cmp.Lexicographic.{slice_cmp, nat_list_cmp_total}
use Rattle.std.specs.List.{AllByRecursion}
use Rattle.std.specs.List.Sorted.{IsStrictlySortedBy}
use Rattle.std.specs.Map.{keys_of}
use Rattle.std.specs.Str.{bytes_eq}
use Rattle.std.proofs.lemmas.Map.Text.{is_eq-slice_cmp}
use Rattle.std.proofs.lemmas.Slice.Eq.{bytes_eq-Decides}
use Rattle.std.specs.Option.{option_eq}
use Rattle.nz_store.specs.declared.command.Command.{Command}
use Rattle.nz_store.specs.declared.command.Command.TheVariants.{Put, Get, Del, Cas}
use Rattle.nz_store.specs.declared.command.Answer.{Answer}
use Rattle.nz_store.specs.declared.command.Answer.TheVariants.{Done}
use Rattle.nz_store.specs.Reading.{command_of}
use Rattle.nz_store.specs.Entries.{Entries, empty, value_of, with_value, without_key, with_choice, IsMap}
use Rattle.nz_store.specs.Sequence.{apply, apply_found, apply_bytes, refusal_answer, store_from, store_after}

abbrev bytes_cmp : List ℕ → List ℕ → Ordering
bytes_cmp a b = slice_cmp nat_cmp a b

-- bytes that compare alike are the same
same_bytes : (a b : List ℕ) → bytes_cmp a b ≡ Equal → a ≡ b
same_bytes a b e = (bytes_eq-Decides a b).0 (sym (is_eq-slice_cmp a b) ∙ ap is_eq e)

apart_bytes : (a b : List ℕ) → bytes_cmp a b ≡ Greater → a ≡ b → ⊥
apart_bytes a b e same =
    let t : bytes_eq a b ≡ true = (bytes_eq-Decides a b).1 same in
    let f : bytes_eq a b ≡ false = sym (is_eq-slice_cmp a b) ∙ ap is_eq e in
    absurd cc

overwritten : {A : Type 0} (b : Bool) (x y z : A) → cond b x z ≡ cond b x (cond b y z)
overwritten true x y z = refl
overwritten false x y z = refl

-- two tests of which one at most holds
exchanged : {A : Type 0} (b c : Bool) (x y z : A) → (b ≡ true → c ≡ true → ⊥) → cond b x (cond c y z) ≡ cond c y (cond b x z)
exchanged true true x y z apart = absurd (apart refl refl)
exchanged true false x y z apart = refl
exchanged false c x y z apart = refl

pub value_of-with_value : (s : Entries) (key value other : List ℕ)
    → value_of (with_value s key value) other ≡ cond (bytes_eq other key) (Some value) (value_of s other)
value_of-with_value [] key value other = refl
value_of-with_value (e ∷ es) key value other =
    elim (bytes_cmp key e.0) as (λ (o : Ordering). bytes_cmp key e.0 ≡ o
    → value_of (match_ordering o ((key, value) ∷ e ∷ es) ((e.0, value) ∷ es) (e ∷ with_value es key value)) other
    ≡ cond (bytes_eq other key) (Some value) (value_of (e ∷ es) other)) [
      | Less ↦ λ is. refl
      | Equal ↦ λ is.
          let same : e.0 ≡ key = sym (same_bytes key e.0 is) in
          subst (λ (k : List ℕ). cond (bytes_eq other k) (Some value) (value_of es other)
          ≡ cond (bytes_eq other key) (Some value) (cond (bytes_eq other k) (Some e.1) (value_of es other)))
          (sym same) (overwritten (bytes_eq other key) (Some value) (Some e.1) (value_of es other))
      | Greater ↦ λ is.
          ap (λ (o : Option (List ℕ)). cond (bytes_eq other e.0) (Some e.1) o) (value_of-with_value es key value other)
          ∙ exchanged (bytes_eq other e.0) (bytes_eq other key) (Some e.1) (Some value) (value_of es other)
          (λ p q. apart_bytes key e.0 is (sym ((bytes_eq-Decides other key).0 q) ∙ (bytes_eq-Decides other e.0).0 p))
    ] refl

abbrev nothing : Option (List ℕ)
nothing = None

pub value_of-without : (s : Entries) (key other : List ℕ) → value_of (without_key s key) other ≡ cond (bytes_eq other key) None (value_of s other)
value_of-without [] key other =
    elim (bytes_eq other key) as (λ (b : Bool). nothing ≡ cond b nothing nothing) [ true ↦ refl | false ↦ refl ]
value_of-without (e ∷ es) key other =
    elim (bytes_eq key e.0) as (λ (b : Bool). bytes_eq key e.0 ≡ b
    → value_of (cond (not b) (e ∷ without_key es key) (without_key es key)) other ≡ cond (bytes_eq other key) None (value_of (e ∷ es) other)) [
      | true ↦ λ is.
          let same : e.0 ≡ key = sym ((bytes_eq-Decides key e.0).0 is) in
          value_of-without es key other
          ∙ subst (λ (k : List ℕ). cond (bytes_eq other key) None (value_of es other)
          ≡ cond (bytes_eq other key) None (cond (bytes_eq other k) (Some e.1) (value_of es other))) (sym same)
          (overwritten (bytes_eq other key) None (Some e.1) (value_of es other))
      | false ↦ λ is.
          ap (λ (o : Option (List ℕ)). cond (bytes_eq other e.0) (Some e.1) o) (value_of-without es key other)
          ∙ exchanged (bytes_eq other e.0) (bytes_eq other key) (Some e.1) None (value_of es other)
          (λ p q.
          let t : bytes_eq key e.0 ≡ true = (bytes_eq-Decides key e.0).1 (sym ((bytes_eq-Decides other key).0 q) ∙ (bytes_eq-Decides other e.0).0 p) in
          absurd cc)
    ] refl

-- ---- each key is there once

-- all keys lie above this one
abbrev AllAbove : List ℕ → Entries → Type 0
AllAbove low s = AllByRecursion (λ k. bytes_cmp low k ≡ Less) (keys_of s)

above-with_value : (low : List ℕ) (s : Entries) (key value : List ℕ) → bytes_cmp low key ≡ Less → AllAbove low s → AllAbove low (with_value s key value)
above-with_value low [] key value l h = (l, tt)
above-with_value low (e ∷ es) key value l h =
    elim (bytes_cmp key e.0) as (λ (o : Ordering). AllAbove low (match_ordering o ((key, value) ∷ e ∷ es) ((e.0, value) ∷ es) (e ∷ with_value es key value))) [
      | Less ↦ (l, h)
      | Equal ↦ h
      | Greater ↦ (h.0, above-with_value low es key value l h.1)
    ]

above-without : (low : List ℕ) (s : Entries) (key : List ℕ) → AllAbove low s → AllAbove low (without_key s key)
above-without low [] key h = tt
above-without low (e ∷ es) key h =
    elim (bytes_eq key e.0) as (λ (b : Bool). AllAbove low (cond (not b) (e ∷ without_key es key) (without_key es key))) [
      | true ↦ above-without low es key h.1
      | false ↦ (h.0, above-without low es key h.1)
    ]

lower : (low key : List ℕ) (s : Entries) → bytes_cmp low key ≡ Less → AllAbove key s → AllAbove low s
lower low key [] l h = tt
lower low key (e ∷ es) l h = (nat_list_cmp_total.trans low key e.0 l h.0, lower low key es l h.1)

pub IsMap-with_value : (s : Entries) (key value : List ℕ) → IsMap s → IsMap (with_value s key value)
unfolding IsStrictlySortedBy
IsMap-with_value [] key value h = (tt, tt)
IsMap-with_value (e ∷ es) key value h =
    elim (bytes_cmp key e.0) as (λ (o : Ordering). bytes_cmp key e.0 ≡ o
    → IsMap (match_ordering o ((key, value) ∷ e ∷ es) ((e.0, value) ∷ es) (e ∷ with_value es key value))) [
      | Less ↦ λ is. ((is, lower key e.0 es is h.0), h)
      | Equal ↦ λ is. h
      | Greater ↦
          λ is. (
            above-with_value e.0 es key value (nat_list_cmp_total.antisymm e.0 key ∙ ap ordering_reverse is) h.0,
            IsMap-with_value es key value h.1,
          )
    ] refl

pub IsMap-without : (s : Entries) (key : List ℕ) → IsMap s → IsMap (without_key s key)
unfolding IsStrictlySortedBy
IsMap-without [] key h = tt
IsMap-without (e ∷ es) key h =
    elim (bytes_eq key e.0) as (λ (b : Bool). IsMap (cond (not b) (e ∷ without_key es key) (without_key es key))) [
      | true ↦ IsMap-without es key h.1
      | false ↦ (above-without e.0 es key h.0, IsMap-without es key h.1)
    ]

IsMap-with_choice : (s : Entries) (key : List ℕ) (value : Option (List ℕ)) → IsMap s → IsMap (with_choice s key value)
IsMap-with_choice s key (Some value) h = IsMap-with_value s key value h
IsMap-with_choice s key None h = IsMap-without s key h

either_is : (b : Bool) (x y : Entries × Answer) → IsMap x.0 → IsMap y.0 → IsMap (cond b x y).0
either_is true x y h k = h
either_is false x y h k = k

pub IsMap-apply : (s : Entries) (c : Command) → IsMap s → IsMap (apply s c).0
unfolding apply
IsMap-apply s (Put key value) h = IsMap-with_value s key value h
IsMap-apply s (Get key) h = h
IsMap-apply s (Del key) h = IsMap-without s key h
IsMap-apply s (Cas key old new) h =
    either_is (option_eq bytes_eq (value_of s key) old) (with_choice s key new, Done) (s, refusal_answer (value_of s key)) (IsMap-with_choice s key new h) h

IsMap-apply_found : (s : Entries) (o : Option Command) → IsMap s → IsMap (apply_found s o).0
IsMap-apply_found s (Some c) h = IsMap-apply s c h
IsMap-apply_found s None h = h

pub IsMap-store_from : (s : Entries) (list : List (List ℕ)) → IsMap s → IsMap (store_from s list)
unfolding store_from apply_bytes
IsMap-store_from s [] h = h
IsMap-store_from s (bytes ∷ list) h = IsMap-store_from (apply_bytes s bytes).0 list (IsMap-apply_found s (command_of bytes) h)

pub IsMap-store_after : (list : List (List ℕ)) → IsMap (store_after list)
unfolding IsStrictlySortedBy
IsMap-store_after list = IsMap-store_from empty list tt
