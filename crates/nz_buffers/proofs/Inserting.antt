-- An early entry goes to its place, and the others stay as they are.
use Rattle.std.proofs.Common.{◌≡◌, ℕ, suc, Bool, true, false, cond, List, [], ◌∷◌, refl, sym, ap, subst, ◌∙◌, inl, inr, ◌⊎◌}
use Rattle.std.proofs.lemmas.Bool.{cases_Bool, or_cases, or_left, or_right, or_parts}
use Rattle.std.specs.List.{insert}
use Rattle.nz_base.specs.declared.key.Id.{Id}
use Rattle.nz_base.specs.declared.key.Key.{Key}
use Rattle.nz_base.specs.declared.key.Entry.{Entry}
use Rattle.nz_base.specs.Key.{key_below, key_eq, id_eq, id_of}
use Rattle.nz_base.specs.Log.{keys_of, has_key, has_id, AreRising, HaveOwnIds, IsLog}
use Rattle.nz_base.proofs.Keys.{key_below-trans, key_below-total}
use Rattle.nz_base.proofs.Names.{id_eq_self, same_key, id_turn_away}
use Rattle.nz_base.proofs.Booleans.{true_and_false}
use Rattle.nz_buffers.specs.Buffers.{insert_by_key}
use Rattle.nz_buffers.specs.Places.{key_place_from}

-- ---- the place

choice_suc : (b : Bool) (m n : ℕ) → cond b (suc m) (suc n) ≡ suc (cond b m n)
choice_suc true m n = refl
choice_suc false m n = refl

key_place_suc : (n : ℕ) (es : List Entry) (key : Key) → key_place_from (suc n) es key ≡ suc (key_place_from n es key)
key_place_suc n [] key = refl
key_place_suc n (e ∷ es) key =
    ap (cond (key_below key e.key) (suc n)) (key_place_suc (suc n) es key) ∙ choice_suc (key_below key e.key) n (key_place_from (suc n) es key)

at_choice : (e f : Entry) (fs : List Entry) (b : Bool) (k : ℕ) → insert fs k e ≡ insert_by_key fs e
    → insert (f ∷ fs) (cond b 0 (suc k)) e ≡ cond b (e ∷ f ∷ fs) (f ∷ insert_by_key fs e)
at_choice e f fs true k h = refl
at_choice e f fs false k h = ap (λ (xs : List Entry). f ∷ xs) h

pub insert_by_key_at : (es : List Entry) (e : Entry) → insert es (key_place_from 0 es e.key) e ≡ insert_by_key es e
insert_by_key_at [] e = refl
insert_by_key_at (f ∷ fs) e =
    ap (λ (k : ℕ). insert (f ∷ fs) (cond (key_below e.key f.key) 0 k) e) (key_place_suc 0 fs e.key)
    ∙ at_choice e f fs (key_below e.key f.key) (key_place_from 0 fs e.key) (insert_by_key_at fs e)

-- ---- the keys

pub has_key_insert : (es : List Entry) (e : Entry) (x : Key) → has_key (keys_of (insert_by_key es e)) x ≡ true → (x ≡ e.key) ⊎ (has_key (keys_of es) x ≡ true)
has_key_insert [] e x h =
    elim (or_cases (key_eq x e.key) false h) [
      | inl first ↦ inl (same_key x e.key first)
      | inr none ↦ absurd cc
    ]
has_key_insert (f ∷ fs) e x h =
    elim (cases_Bool (key_below e.key f.key)) [
      | inl lower ↦ elim (or_cases (key_eq x e.key) (has_key (keys_of (f ∷ fs)) x) (rw lower at h)) [
        | inl first ↦ inl (same_key x e.key first)
        | inr there ↦ inr there
      ]
      | inr not_lower ↦ elim (or_cases (key_eq x f.key) (has_key (keys_of (insert_by_key fs e)) x) (rw not_lower at h)) [
        | inl first ↦ inr (or_left (key_eq x f.key) (has_key (keys_of fs) x) first)
        | inr there ↦ elim (has_key_insert fs e x there) [
          | inl own ↦ inl own
          | inr old ↦ inr (or_right (key_eq x f.key) (has_key (keys_of fs) x) old)
        ]
      ]
    ]

-- a key that is not below another one with a different id is above it
pub above_other : (a b : Key) → key_below a b ≡ false → id_eq (id_of a) (id_of b) ≡ false → key_below b a ≡ true
above_other a b not_lower apart =
    elim (cases_Bool (key_below b a)) [
      | inl higher ↦ higher
      | inr not_higher ↦
          true_and_false (id_eq (id_of a) (id_of b))
          (subst (λ (k : Key). id_eq (id_of a) (id_of k) ≡ true) (key_below-total a b not_lower not_higher) (id_eq_self (id_of a))) apart
    ]

pub rising_insert : (es : List Entry) (e : Entry) → AreRising (keys_of es) → has_id (keys_of es) (id_of e.key) ≡ false
    → AreRising (keys_of (insert_by_key es e))
rising_insert [] e r fresh = (λ x h. absurd cc, tt)
rising_insert (f ∷ fs) e r fresh =
    elim (cases_Bool (key_below e.key f.key)) [
      | inl lower ↦ rw lower (
        λ x h. elim (or_cases (key_eq x f.key) (has_key (keys_of fs) x) h) [
          | inl first ↦ subst (λ (y : Key). key_below e.key y ≡ true) (sym (same_key x f.key first)) lower
          | inr there ↦ key_below-trans e.key f.key x lower (r.0 x there)
        ],
        r,
      )
      | inr not_lower ↦
          let apart = (or_parts (id_eq (id_of e.key) (id_of f.key)) (has_id (keys_of fs) (id_of e.key)) fresh).0 in
          let rest = (or_parts (id_eq (id_of e.key) (id_of f.key)) (has_id (keys_of fs) (id_of e.key)) fresh).1 in
          rw not_lower (
            λ x h. elim (has_key_insert fs e x h) [
              | inl own ↦ subst (λ (y : Key). key_below f.key y ≡ true) (sym own) (above_other e.key f.key not_lower apart)
              | inr old ↦ r.0 x old
            ],
            rising_insert fs e r.1 rest,
          )
    ]

-- ---- the ids

pub has_id_insert : (es : List Entry) (e : Entry) (i : Id) → has_id (keys_of es) i ≡ false
    → id_eq i (id_of e.key) ≡ false → has_id (keys_of (insert_by_key es e)) i ≡ false
has_id_insert [] e i h apart = rw apart refl
has_id_insert (f ∷ fs) e i h apart =
    elim (cases_Bool (key_below e.key f.key)) [
      | inl lower ↦ rw (lower, apart) h
      | inr not_lower ↦
          rw (not_lower, (or_parts (id_eq i (id_of f.key)) (has_id (keys_of fs) i) h).0)
          (has_id_insert fs e i (or_parts (id_eq i (id_of f.key)) (has_id (keys_of fs) i) h).1 apart)
    ]

pub own_insert : (es : List Entry) (e : Entry) → HaveOwnIds (keys_of es) → has_id (keys_of es) (id_of e.key) ≡ false → HaveOwnIds (keys_of (insert_by_key es e))
own_insert [] e own fresh = (refl, tt)
own_insert (f ∷ fs) e own fresh =
    let apart = (or_parts (id_eq (id_of e.key) (id_of f.key)) (has_id (keys_of fs) (id_of e.key)) fresh).0 in
    let rest = (or_parts (id_eq (id_of e.key) (id_of f.key)) (has_id (keys_of fs) (id_of e.key)) fresh).1 in
    elim (cases_Bool (key_below e.key f.key)) [
      | inl lower ↦ rw lower (fresh, own)
      | inr not_lower ↦ rw not_lower (has_id_insert fs e (id_of f.key) own.0 (id_turn_away (id_of e.key) (id_of f.key) apart), own_insert fs e own.1 rest)
    ]

pub log_insert : (es : List Entry) (e : Entry) → IsLog es → has_id (keys_of es) (id_of e.key) ≡ false → IsLog (insert_by_key es e)
log_insert es e log fresh = record { rising = rising_insert es e log.rising fresh; own_ids = own_insert es e log.own_ids fresh }

-- ---- an entry that comes last
