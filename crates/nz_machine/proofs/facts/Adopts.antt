-- What becomes of log, early and late where a list is put in the place of the log.
use Rattle.std.proofs.Common.{◌≡◌, ℕ, ◌+◌, ◌<◌, true, false, not, ◌||◌, List, [], ◌∷◌, ◌++◌, length, take, drop, get_or, refl, sym, ap, subst, ◌∙◌}
use Rattle.std.proofs.Common.{inl, inr, append_assoc, append-nil}
use Rattle.std.proofs.lemmas.Bool.{cases_Bool, or_left, or_right}
use Rattle.std.specs.List.{filter}
use Rattle.std.proofs.lemmas.List.{take_more, take-append-drop}
use Rattle.std.proofs.lemmas.List.Elements.{filter-append}
use Rattle.nz_base.specs.declared.key.Id.{Id}
use Rattle.nz_base.specs.declared.key.Key.{Key}
use Rattle.nz_base.specs.declared.key.Entry.{Entry}
use Rattle.nz_base.specs.Key.{id_eq, id_of}
use Rattle.nz_base.specs.Log.{keys_of, has_id, is_above_last, HaveOwnIds}
use Rattle.nz_base.proofs.Names.{id_turn, id_turn_away}
use Rattle.nz_base.proofs.Logs.{keys_append, has_id-append}
use Rattle.nz_log.specs.Synced.{Log, left_out}
use Rattle.nz_buffers.specs.Buffers.{without}
use Rattle.nz_machine.specs.rules.State.{ReplicaData}
use Rattle.nz_machine.specs.rules.Facts.{AreApart, IsCarried}
use Rattle.nz_machine.specs.rules.Taking.{with_parts}
use Rattle.nz_machine.specs.rules.Adopting.{with_log}
use Rattle.nz_machine.proofs.facts.KeysApart.{own_rest}
use Rattle.nz_machine.proofs.facts.Adopting.{apart_adopted}

-- ---- the ids of a list leave, one after the other

pub left_none : (es : List Entry) → left_out es [] ≡ es
left_none [] = refl
left_none (e ∷ es) = ap (λ (xs : List Entry). e ∷ xs) (left_none es)

has_id_more : (xs : List Entry) (x : Entry) (i : Id) → has_id (keys_of (xs ++ x ∷ [])) i ≡ (has_id (keys_of xs) i || has_id (keys_of (x ∷ [])) i)
has_id_more xs x i = ap (λ (ks : List Key). has_id ks i) (keys_append xs (x ∷ [])) ∙ has_id-append (keys_of xs) (keys_of (x ∷ [])) i

left_next : (es xs : List Entry) (x : Entry) → without (left_out es xs) (id_of x.key) ≡ left_out es (xs ++ x ∷ [])
left_next [] xs x = refl
left_next (e ∷ es) xs x =
    let i = id_of e.key in
    let more = has_id_more xs x i in
    elim (cases_Bool (has_id (keys_of xs) i)) [
      | inl held ↦
          let all : has_id (keys_of (xs ++ x ∷ [])) i ≡ true = more ∙ or_left (has_id (keys_of xs) i) (has_id (keys_of (x ∷ [])) i) held in
          rw (held, all) (left_next es xs x)
      | inr none ↦ elim (cases_Bool (id_eq (id_of x.key) i)) [
        | inl same ↦
            let turned = id_turn (id_of x.key) i same in
            let all : has_id (keys_of (xs ++ x ∷ [])) i ≡ true =
            more ∙ or_right (has_id (keys_of xs) i) (has_id (keys_of (x ∷ [])) i) (or_left (id_eq i (id_of x.key)) false turned) in
            rw (none, same, all) (left_next es xs x)
        | inr away ↦
            let turned = id_turn_away (id_of x.key) i away in
            let all : has_id (keys_of (xs ++ x ∷ [])) i ≡ false = more ∙ (rw (none, turned) refl) in
            rw (none, away, all) (ap (λ (ys : List Entry). e ∷ ys) (left_next es xs x))
      ]
    ]

pub left_step : (es list : List Entry) (i : ℕ) (d : Entry) → i < length list
    → without (left_out es (take i list)) (id_of (get_or list i d).key) ≡ left_out es (take (i + 1) list)
left_step es list i d within = left_next es (take i list) (get_or list i d) ∙ ap (left_out es) (sym (take_more list i d within))

-- where nothing is left after the first of the list, nothing is left after all of it
none_left : (es xs ys : List Entry) → left_out es xs ≡ [] → left_out es (xs ++ ys) ≡ []
none_left es xs [] none = ap (left_out es) (append-nil xs) ∙ none
none_left es xs (y ∷ ys) none =
    let more : left_out es (xs ++ y ∷ []) ≡ [] = sym (left_next es xs y) ∙ ap (λ (l : List Entry). without l (id_of y.key)) none in
    ap (left_out es) (sym (append_assoc xs (y ∷ []) ys)) ∙ none_left es (xs ++ y ∷ []) ys more

pub left_nothing : (es list : List Entry) (i : ℕ) → left_out es (take i list) ≡ [] → left_out es list ≡ []
left_nothing es list i none = ap (left_out es) (sym (take-append-drop i list)) ∙ none_left es (take i list) (drop i list) none

-- ---- log, early and late

pub left_both : (l : Log) (fs list : List Entry) → left_out (fs ++ l.entries) list ≡ left_out fs list ++ left_out l.entries list
left_both l fs list = filter-append (λ (e : Entry). not (has_id (keys_of list) (id_of e.key))) fs l.entries

-- what goes to late is of different ids
pub own_left : (l : Log) (es fs list : List Entry) → AreApart l es fs → IsCarried list → HaveOwnIds (keys_of (left_out fs list ++ left_out l.entries list))
own_left l es fs list a c =
    let all = (apart_adopted l es fs list a c.log c.few c.fit).own_ids in
    let last = left_out (fs ++ l.entries) list in
    let rest = own_rest (keys_of list) (keys_of (left_out es list ++ last)) (subst HaveOwnIds (keys_append list (left_out es list ++ last)) all) in
    subst (λ (xs : List Entry). HaveOwnIds (keys_of xs)) (left_both l fs list)
    (own_rest (keys_of (left_out es list)) (keys_of last) (subst HaveOwnIds (keys_append (left_out es list) last) rest))

-- the whole, in its steps
pub adopted : (s : ReplicaData) (l new : Log) (es fs early late early2 late2 list : List Entry)
    → new ≡ record { entries = list; synced = length list } → early ≡ left_out es list
    → late ≡ left_out fs list ++ left_out l.entries list → early2 ≡ filter (λ (e : Entry). is_above_last (keys_of new.entries) e.key) early
    → late2 ≡ late ++ filter (λ (e : Entry). not (is_above_last (keys_of new.entries) e.key)) early
    → with_log (with_parts s l es fs) list ≡ with_parts s new early2 late2
adopted s l new es fs early late early2 late2 list new-is early-is late-is early2-is late2-is =
    let log : Log = record { entries = list; synced = length list } in
    let e2 : filter (λ (e : Entry). is_above_last (keys_of list) e.key) (left_out es list) ≡ early2 =
    sym (early2-is ∙ (λ i. filter (λ (e : Entry). is_above_last (keys_of (new-is i).entries) e.key) (early-is i))) in
    let l2 : left_out (fs ++ l.entries) list ++ filter (λ (e : Entry). not (is_above_last (keys_of list) e.key)) (left_out es list) ≡ late2 =
    sym (late2-is ∙ (λ i. (late-is ∙ sym (left_both l fs list)) i
    ++ filter (λ (e : Entry). not (is_above_last (keys_of (new-is i).entries) e.key)) (early-is i))) in
    λ i. with_parts s (sym new-is i) (e2 i) (l2 i)
