-- The index of a log, while its entries go to their places one after another.
use Rattle.std.proofs.Common.{◌≡◌, ℕ, suc, ◌+◌, ◌<◌, ◌≤◌, take, drop, get_or, drop-cons, append_assoc, arith, true, false, List, [], ◌∷◌}
use Rattle.std.proofs.Common.{◌++◌, length, filter, Option, Some, None, is_some, refl, sym, ap, subst, ◌∙◌, inl, inr, if◌then◌else◌}
use Rattle.std.proofs.lemmas.Bool.{cases_Bool, or_left, or_right, or_parts}
use Rattle.std.specs.Option.{option_map}
use Rattle.std.proofs.lemmas.List.{length-take-le}
use Rattle.nz_base.specs.declared.key.Id.{Id}
use Rattle.nz_base.specs.declared.key.Key.{Key}
use Rattle.nz_base.specs.declared.key.Entry.{Entry}
use Rattle.nz_base.specs.Key.{key_below, id_eq, id_of}
use Rattle.nz_base.specs.Log.{keys_of, has_id, HaveOwnIds}
use Rattle.nz_base.proofs.Names.{same_id, id_turn, id_turn_away, id_eq_self}
use Rattle.nz_base.proofs.Booleans.{true_and_false}
use Rattle.nz_base.proofs.Logs.{has_id-append, keys_append}
use Rattle.nz_log.specs.Places.{place_of}
use Rattle.nz_log.specs.Synced.{stays_after}
use Rattle.nz_log.specs.Keeping.{IsMidway}
use Rattle.nz_log.proofs.Placing.{place_none, place_held}

-- ---- the place of an id in a log with one more entry

pub place_push_other : (es : List Entry) (e : Entry) (i : Id) → id_eq i (id_of e.key) ≡ false → place_of (es ++ e ∷ []) i ≡ place_of es i
place_push_other [] e i apart = rw apart refl
place_push_other (f ∷ es) e i apart = ap (λ (o : Option ℕ). if id_eq i (id_of f.key) then Some 0 else option_map suc o) (place_push_other es e i apart)

pub place_push_new : (es : List Entry) (e : Entry) (i : Id) → has_id (keys_of es) i ≡ false
    → id_eq i (id_of e.key) ≡ true → place_of (es ++ e ∷ []) i ≡ Some (length es)
place_push_new [] e i away here = rw here refl
place_push_new (f ∷ es) e i away here =
    rw ((or_parts (id_eq i (id_of f.key)) (has_id (keys_of es) i) away).0)
    (ap (λ (o : Option ℕ). option_map suc o) (place_push_new es e i (or_parts (id_eq i (id_of f.key)) (has_id (keys_of es) i) away).1 here))

pub place_push_old : (es : List Entry) (e : Entry) (i : Id) → has_id (keys_of es) i ≡ true → place_of (es ++ e ∷ []) i ≡ place_of es i
place_push_old [] e i there = absurd cc
place_push_old (f ∷ es) e i there =
    elim (cases_Bool (id_eq i (id_of f.key))) [
      | inl here ↦ rw here refl
      | inr away ↦ rw away (ap (λ (o : Option ℕ). option_map suc o) (place_push_old es e i (rw away at there)))
    ]

-- the id of one more entry is noted
pub place_noted : (es : List Entry) (e : Entry) (f g : Id → Option ℕ) → has_id (keys_of es) (id_of e.key) ≡ false
    → ((i : Id) → f i ≡ place_of es i) → ((i : Id) → g i ≡ (if id_eq (id_of e.key) i then Some (length es) else f i))
    → (i : Id) → g i ≡ place_of (es ++ e ∷ []) i
place_noted es e f g fresh old now i = now i ∙ elim (cases_Bool (id_eq (id_of e.key) i)) [
  | inl here ↦
      rw here (sym (place_push_new es e i
      (subst (λ (j : Id). has_id (keys_of es) j ≡ false) (same_id (id_of e.key) i here) fresh) (id_turn (id_of e.key) i here)))
  | inr away ↦ rw away (old i ∙ sym (place_push_other es e i (id_turn_away (id_of e.key) i away)))
]

-- the id of the last entry is forgotten
pub place_forgotten : (es : List Entry) (e : Entry) (f g : Id → Option ℕ) → has_id (keys_of es) (id_of e.key) ≡ false
    → ((i : Id) → f i ≡ place_of (es ++ e ∷ []) i) → ((i : Id) → g i ≡ (if id_eq (id_of e.key) i then None else f i))
    → (i : Id) → g i ≡ place_of es i
place_forgotten es e f g fresh old now i = now i ∙ elim (cases_Bool (id_eq (id_of e.key) i)) [
  | inl here ↦
      rw here (sym (place_none es i (subst (λ (j : Id). has_id (keys_of es) j ≡ false) (same_id (id_of e.key) i here) fresh)))
  | inr away ↦ rw away (old i ∙ place_push_other es e i (id_turn_away (id_of e.key) i away))
]

-- ---- one entry after another

pub midway_own : (key : Key) (settled : List Entry) (x : Entry) (rest : List Entry) (f : Id → Option ℕ) → id_eq (id_of key) (id_of x.key) ≡ true
    → IsMidway key settled (x ∷ rest) f → IsMidway key settled rest f
midway_own key settled x rest f own mid = record {
  own = mid.own.1;
  apart = λ i there other. mid.apart i (or_right (id_eq i (id_of x.key)) (has_id (keys_of rest) i) there) other;
  held = λ i there. mid.held i (or_right (id_eq i (id_of x.key)) (has_id (keys_of rest) i) there);
  right = λ i. elim [
    | inr same ↦ mid.right i (inr same)
    | inl away ↦ elim (cases_Bool (id_eq i (id_of x.key))) [
      | inl here ↦ mid.right i (inr (subst (λ (j : Id). id_eq (id_of key) j ≡ true) (sym (same_id i (id_of x.key) here)) own))
      | inr other ↦ mid.right i (inl (rw other away))
    ]
  ];
}

pub midway_gone : (key : Key) (settled : List Entry) (x : Entry) (rest : List Entry) (f g : Id → Option ℕ) → id_eq (id_of key) (id_of x.key) ≡ false
    → ((i : Id) → g i ≡ (if id_eq (id_of x.key) i then None else f i)) → IsMidway key settled (x ∷ rest) f → IsMidway key settled rest g
midway_gone key settled x rest f g other now mid = record {
  own = mid.own.1;
  apart = λ i there apart. mid.apart i (or_right (id_eq i (id_of x.key)) (has_id (keys_of rest) i) there) apart;
  held = λ i there. elim (cases_Bool (id_eq (id_of x.key) i)) [
    | inl here ↦
        true_and_false (has_id (keys_of rest) (id_of x.key))
        (subst (λ (j : Id). has_id (keys_of rest) j ≡ true) (sym (same_id (id_of x.key) i here)) there) mid.own.0
    | inr away ↦ ap is_some (now i) ∙ rw away (mid.held i (or_right (id_eq i (id_of x.key)) (has_id (keys_of rest) i) there))
  ];
  right = λ i known. elim (cases_Bool (id_eq (id_of x.key) i)) [
    | inl here ↦
        let is : id_of x.key ≡ i = same_id (id_of x.key) i here in
        let free : has_id (keys_of settled) i ≡ false =
        subst (λ (j : Id). has_id (keys_of settled) j ≡ false) is
        (mid.apart (id_of x.key) (or_left (id_eq (id_of x.key) (id_of x.key)) (has_id (keys_of rest) (id_of x.key))
        (id_eq_self (id_of x.key))) other) in
        now i ∙ rw here (sym (place_none settled i free))
    | inr away ↦ now i ∙ rw away (mid.right i (elim known [
      | inr same ↦ inr same
      | inl gone ↦ inl (rw (id_turn_away (id_of x.key) i away) gone)
    ]))
  ];
}

pub midway_stays : (key : Key) (settled : List Entry) (x : Entry) (rest : List Entry) (f g : Id → Option ℕ) → id_eq (id_of key) (id_of x.key) ≡ false
    → ((i : Id) → g i ≡ (if id_eq (id_of x.key) i then Some (length settled) else f i))
    → IsMidway key settled (x ∷ rest) f → IsMidway key (settled ++ x ∷ []) rest g
midway_stays key settled x rest f g other now mid =
    let first = mid.apart (id_of x.key) (or_left (id_eq (id_of x.key) (id_of x.key)) (has_id (keys_of rest) (id_of x.key)) (id_eq_self (id_of x.key))) other in
    record {
      own = mid.own.1;
      apart = λ i there apart.
          let away : id_eq i (id_of x.key) ≡ false = elim (cases_Bool (id_eq i (id_of x.key))) [
            | inl here ↦
                true_and_false (has_id (keys_of rest) (id_of x.key))
                (subst (λ (j : Id). has_id (keys_of rest) j ≡ true) (same_id i (id_of x.key) here) there) mid.own.0
            | inr away ↦ away
          ] in
          let free = mid.apart i (or_right (id_eq i (id_of x.key)) (has_id (keys_of rest) i) there) apart in
          ap (λ (ks : List Key). has_id ks i) (keys_append settled (x ∷ [])) ∙ has_id-append (keys_of settled) (x.key ∷ []) i ∙ rw (free, away) refl;
      held = λ i there. elim (cases_Bool (id_eq (id_of x.key) i)) [
        | inl here ↦ ap is_some (now i) ∙ rw here refl
        | inr away ↦ ap is_some (now i) ∙ rw away (mid.held i (or_right (id_eq i (id_of x.key)) (has_id (keys_of rest) i) there))
      ];
      right = λ i known. elim (cases_Bool (id_eq (id_of x.key) i)) [
        | inl here ↦
            let free : has_id (keys_of settled) i ≡ false = subst (λ (j : Id). has_id (keys_of settled) j ≡ false) (same_id (id_of x.key) i here) first in
            now i ∙ rw here (sym (place_push_new settled x i free (id_turn (id_of x.key) i here)))
        | inr away ↦ now i ∙ rw away (mid.right i (elim known [
          | inr same ↦ inr same
          | inl gone ↦ inl (rw (id_turn_away (id_of x.key) i away) gone)
        ]) ∙ sym (place_push_other settled x i (id_turn_away (id_of x.key) i away)))
      ];
    }

pub midway_end : (key : Key) (settled : List Entry) (f : Id → Option ℕ) → IsMidway key settled [] f → (i : Id) → f i ≡ place_of settled i
midway_end key settled f mid i = mid.right i (inl refl)

-- ---- the beginning

pub own_last : (xs ys : List Key) → HaveOwnIds (xs ++ ys) → HaveOwnIds ys
own_last [] ys own = own
own_last (x ∷ xs) ys own = own_last xs ys own.1

-- an id of the last entries is not among the first
away_in_prefix : (xs ys : List Key) (i : Id) → HaveOwnIds (xs ++ ys) → has_id ys i ≡ true → has_id xs i ≡ false
away_in_prefix [] ys i own there = refl
away_in_prefix (x ∷ xs) ys i own there =
    elim (cases_Bool (id_eq i (id_of x))) [
      | inr away ↦ rw away (away_in_prefix xs ys i own.1 there)
      | inl here ↦
          true_and_false (has_id (xs ++ ys) (id_of x))
          (subst (λ (j : Id). has_id (xs ++ ys) j ≡ true) (same_id i (id_of x) here)
          (has_id-append xs ys i ∙ or_right (has_id xs i) (has_id ys i) there)) own.0
    ]

-- an id that is not among the last entries has its place among the first
place_in_prefix : (prefix back : List Entry) (i : Id) → has_id (keys_of back) i ≡ false → place_of (prefix ++ back) i ≡ place_of prefix i
place_in_prefix [] back i away = place_none back i away
place_in_prefix (f ∷ prefix) back i away =
    ap (λ (o : Option ℕ). if id_eq i (id_of f.key) then Some 0 else option_map suc o) (place_in_prefix prefix back i away)

pub midway_start : (prefix : List Entry) (e : Entry) (back : List Entry) (f g : Id → Option ℕ)
    → HaveOwnIds (keys_of (prefix ++ back)) → has_id (keys_of prefix) (id_of e.key) ≡ false
    → ((i : Id) → f i ≡ place_of (prefix ++ back) i) → ((i : Id) → g i ≡ (if id_eq (id_of e.key) i then Some (length prefix) else f i))
    → IsMidway e.key (prefix ++ e ∷ []) back g
midway_start prefix e back f g own fresh old now =
    let parts : keys_of (prefix ++ back) ≡ keys_of prefix ++ keys_of back = keys_append prefix back in
    let apart = subst HaveOwnIds parts own in
    record {
      own = own_last (keys_of prefix) (keys_of back) apart;
      apart = λ i there other. with_last i (id_turn_away (id_of e.key) i other) (away_in_prefix (keys_of prefix) (keys_of back) i apart there);
      held = λ i there. ap is_some (now i) ∙ elim (cases_Bool (id_eq (id_of e.key) i)) [
        | inl here ↦ rw here refl
        | inr away ↦
            rw away (ap is_some (old i) ∙ place_held (prefix ++ back) i ∙ ap (λ (ks : List Key). has_id ks i) parts
            ∙ has_id-append (keys_of prefix) (keys_of back) i ∙ or_right (has_id (keys_of prefix) i) (has_id (keys_of back) i) there)
      ];
      right = λ i known. now i ∙ elim (cases_Bool (id_eq (id_of e.key) i)) [
        | inl here ↦
            rw here (sym (place_push_new prefix e i
            (subst (λ (j : Id). has_id (keys_of prefix) j ≡ false) (same_id (id_of e.key) i here) fresh) (id_turn (id_of e.key) i here)))
        | inr away ↦ rw away (old i ∙ elim known [
          | inr same ↦ true_and_false (id_eq (id_of e.key) i) same away
          | inl gone ↦ place_in_prefix prefix back i gone ∙ sym (place_push_other prefix e i (id_turn_away (id_of e.key) i away))
        ])
      ];
    }
  where
    with_last : (i : Id) → id_eq i (id_of e.key) ≡ false → has_id (keys_of prefix) i ≡ false → has_id (keys_of (prefix ++ e ∷ [])) i ≡ false
    with_last i away free =
        ap (λ (ks : List Key). has_id ks i) (keys_append prefix (e ∷ [])) ∙ has_id-append (keys_of prefix) (e.key ∷ []) i ∙ rw (free, away) refl

-- ---- a step of the loop

-- The entries up to `kept` have their places, those from `place` on are to come, and together they give the whole.
pub record IsAlong (key : Key) (es : List Entry) (kept place : ℕ) (index : Id → Option ℕ) (whole : List Entry) : Type 0 where
  pub same : take kept es ++ filter (stays_after key) (drop place es) ≡ whole
  pub midway : IsMidway key (take kept es) (drop place es) index

pub next_one : (es : List Entry) (place : ℕ) (x : Entry) → place < length es → x ≡ get_or es place x → drop place es ≡ x ∷ drop (place + 1) es
next_one es place x within is =
    let next : suc place ≡ place + 1 = omega arith in
    drop-cons es place x within ∙ ap (λ (y : Entry). y ∷ drop (suc place) es) (sym is) ∙ ap (λ (n : ℕ). x ∷ drop n es) next

module _ (key : Key) (es : List Entry) (kept place : ℕ) (f : Id → Option ℕ) (whole : List Entry) (x : Entry)
    (within : place < length es) (is : x ≡ get_or es place x) (along : IsAlong key es kept place f whole) where
  before : take kept es ++ filter (stays_after key) (x ∷ drop (place + 1) es) ≡ whole
  before = ap (λ (xs : List Entry). take kept es ++ filter (stays_after key) xs) (sym (next_one es place x within is)) ∙ along.same

  midway : IsMidway key (take kept es) (x ∷ drop (place + 1) es) f
  midway = subst (λ (xs : List Entry). IsMidway key (take kept es) xs f) (next_one es place x within is) along.midway

  dropped : id_eq (id_of key) (id_of x.key) ≡ true → filter (stays_after key) (x ∷ drop (place + 1) es) ≡ filter (stays_after key) (drop (place + 1) es)
  dropped own = elim (cases_Bool (key_below key x.key)) [
    | inl high ↦ rw (high, own) refl
    | inr low ↦ rw low refl
  ]

  -- an entry of the key's own id goes, and its place is that of the new one
  pub along_own : id_eq (id_of key) (id_of x.key) ≡ true → IsAlong key es kept (place + 1) f whole
  along_own own = record {
    same = ap (λ (xs : List Entry). take kept es ++ xs) (sym (dropped own)) ∙ before;
    midway = midway_own key (take kept es) x (drop (place + 1) es) f own midway;
  }

  pub along_gone : (g : Id → Option ℕ) → id_eq (id_of key) (id_of x.key) ≡ false → key_below key x.key ≡ false
      → ((i : Id) → g i ≡ (if id_eq (id_of x.key) i then None else f i)) → IsAlong key es kept (place + 1) g whole
  along_gone g other low now = record {
    same = ap (λ (xs : List Entry). take kept es ++ xs) (sym (rw low refl)) ∙ before;
    midway = midway_gone key (take kept es) x (drop (place + 1) es) f g other now midway;
  }

  pub along_stays : (new : List Entry) (g : Id → Option ℕ) → kept ≤ length es → id_eq (id_of key) (id_of x.key) ≡ false → key_below key x.key ≡ true
      → take (kept + 1) new ≡ take kept es ++ x ∷ [] → drop (place + 1) new ≡ drop (place + 1) es
      → ((i : Id) → g i ≡ (if id_eq (id_of x.key) i then Some kept else f i)) → IsAlong key new (kept + 1) (place + 1) g whole
  along_stays new g down other high first back now =
      let long : length (take kept es) ≡ kept = length-take-le kept es down in
      let left : filter (stays_after key) (x ∷ drop (place + 1) es) ≡ x ∷ filter (stays_after key) (drop (place + 1) es) = rw (high, other) refl in
      let moved : IsMidway key (take kept es ++ x ∷ []) (drop (place + 1) es) g =
      midway_stays key (take kept es) x (drop (place + 1) es) f g other
      (λ i. now i ∙ ap (λ (n : ℕ). if id_eq (id_of x.key) i then Some n else f i) (sym long)) midway in
      record {
        same = ap (λ (xs : List Entry). xs ++ filter (stays_after key) (drop (place + 1) new)) first
            ∙ ap (λ (xs : List Entry). (take kept es ++ x ∷ []) ++ filter (stays_after key) xs) back
            ∙ append_assoc (take kept es) (x ∷ []) (filter (stays_after key) (drop (place + 1) es))
            ∙ ap (λ (xs : List Entry). take kept es ++ xs) (sym left)
            ∙ before;
        midway =
            subst (λ (xs : List Entry). IsMidway key xs (drop (place + 1) new) g) (sym first)
            (subst (λ (xs : List Entry). IsMidway key (take kept es ++ x ∷ []) xs g) (sym back) moved);
      }
