-- Reading finds exactly the commands that are spelled.
use Rattle.std.proofs.Common.{◌≡◌, ℕ, Bool, true, false, cond, eqb, List, [], ◌∷◌, ◌++◌, length, Option}
use Rattle.std.proofs.Common.{Some, None, refl, sym, ap, subst, ◌∙◌, append_assoc, ◌⊎◌, inl, inr, ◌↔◌}
use Rattle.std.specs.Prelude.{IsNone}
use Rattle.std.proofs.lemmas.Bool.{eqb-true}
use Rattle.std.proofs.lemmas.List.{append-nil, nil_from_length}
use Rattle.nz_store.specs.declared.command.Command.{Command}
use Rattle.nz_store.specs.declared.command.Command.TheVariants.{Put, Get, Del, Cas}
use Rattle.nz_store.specs.Grammar.{IsKey, IsValidCommand, Spells, key_spelling, value_spelling, choice_spelling, spelling}
use Rattle.nz_store.specs.Reading.{◌>>=◌, key_at, value_at, choice_at, command_body_at, command_at, all_of, command_of}
use Rattle.nz_store.proofs.Fields.{bind_some, some_is, passed, key_takes, key_again, value_takes, value_again, choice_takes, choice_again}

-- one of two, by a test
chosen : {A : Type 0} (b : Bool) (x y z : A) → cond b x y ≡ z → ((b ≡ true) × (x ≡ z)) ⊎ ((b ≡ false) × (y ≡ z))
chosen true x y z e = inl (refl, e)
chosen false x y z e = inr (refl, e)

abbrev some : Command × List ℕ → Option (Command × List ℕ)
some x = Some x

pub record IsReadAt (bytes : List ℕ) (c : Command) (rest : List ℕ) : Type 0 where
  pub parts : bytes ≡ spelling c ++ rest
  pub valid : IsValidCommand c

-- a command of a kind, whose key was read
put_takes : (key bytes : List ℕ) (x : Command × List ℕ) → IsKey key
    → (value_at bytes >>= λ v. Some (Put key v.0, v.1)) ≡ Some x → IsReadAt (1 ∷ (key_spelling key ++ bytes)) x.0 x.1
put_takes key bytes x h e =
    let b = bind_some (value_at bytes) (λ v. Some (Put key v.0, v.1)) x e in
    let t = value_takes bytes b.0 b.1 in
    let parts : 1 ∷ (key_spelling key ++ bytes) ≡ spelling (Put key b.0.0) ++ b.0.1 =
    ap (λ (l : List ℕ). 1 ∷ l) (ap (λ (l : List ℕ). key_spelling key ++ l) t.0 ∙ sym (append_assoc (key_spelling key) (value_spelling b.0.0) b.0.1)) in
    let made : IsReadAt (1 ∷ (key_spelling key ++ bytes)) (Put key b.0.0) b.0.1 = record { parts = parts; valid = (h, t.1) } in
    subst (λ (p : Command × List ℕ). IsReadAt (1 ∷ (key_spelling key ++ bytes)) p.0 p.1) (some_is (Put key b.0.0, b.0.1) x b.2) made

get_takes : (key bytes : List ℕ) (x : Command × List ℕ) → IsKey key → some (Get key, bytes) ≡ Some x → IsReadAt (2 ∷ (key_spelling key ++ bytes)) x.0 x.1
get_takes key bytes x h e =
    subst (λ (p : Command × List ℕ). IsReadAt (2 ∷ (key_spelling key ++ bytes)) p.0 p.1) (some_is (Get key, bytes) x e) (record { parts = refl; valid = h })

del_takes : (key bytes : List ℕ) (x : Command × List ℕ) → IsKey key → some (Del key, bytes) ≡ Some x → IsReadAt (3 ∷ (key_spelling key ++ bytes)) x.0 x.1
del_takes key bytes x h e =
    subst (λ (p : Command × List ℕ). IsReadAt (3 ∷ (key_spelling key ++ bytes)) p.0 p.1) (some_is (Del key, bytes) x e) (record { parts = refl; valid = h })

cas_takes : (key bytes : List ℕ) (x : Command × List ℕ) → IsKey key
    → (choice_at bytes >>= λ old. choice_at old.1 >>= λ new. Some (Cas key old.0 new.0, new.1)) ≡ Some x
    → IsReadAt (4 ∷ (key_spelling key ++ bytes)) x.0 x.1
cas_takes key bytes x h e =
    let a = bind_some (choice_at bytes) (λ old. choice_at old.1 >>= λ new. Some (Cas key old.0 new.0, new.1)) x e in
    let b = bind_some (choice_at a.0.1) (λ new. Some (Cas key a.0.0 new.0, new.1)) x a.2 in
    let t = choice_takes bytes a.0 a.1 in
    let u = choice_takes a.0.1 b.0 b.1 in
    let old = choice_spelling a.0.0 in
    let new = choice_spelling b.0.0 in
    let both : bytes ≡ (old ++ new) ++ b.0.1 = t.0 ∙ ap (λ (l : List ℕ). old ++ l) u.0 ∙ sym (append_assoc old new b.0.1) in
    let parts : 4 ∷ (key_spelling key ++ bytes) ≡ spelling (Cas key a.0.0 b.0.0) ++ b.0.1 =
    ap (λ (l : List ℕ). 4 ∷ l) (ap (λ (l : List ℕ). key_spelling key ++ l) both ∙ sym (append_assoc (key_spelling key) (old ++ new) b.0.1)) in
    let made : IsReadAt (4 ∷ (key_spelling key ++ bytes)) (Cas key a.0.0 b.0.0) b.0.1 = record { parts = parts; valid = (h, t.1, u.1) } in
    subst (λ (p : Command × List ℕ). IsReadAt (4 ∷ (key_spelling key ++ bytes)) p.0 p.1) (some_is (Cas key a.0.0 b.0.0, b.0.1) x b.2) made

-- the same, whatever the kind
kind_takes : (kind : ℕ) (key bytes : List ℕ) (x : Command × List ℕ) → IsKey key → command_body_at kind key bytes ≡ Some x
    → IsReadAt (kind ∷ (key_spelling key ++ bytes)) x.0 x.1
unfolding command_body_at
kind_takes kind key bytes x h e =
    let Read : ℕ → Type 0 = λ k. IsReadAt (k ∷ (key_spelling key ++ bytes)) x.0 x.1 in
    elim (chosen (eqb kind 1) _ _ (Some x) e) [
      | inl p ↦ subst Read (sym (eqb-true kind 1 p.0)) (put_takes key bytes x h p.1)
      | inr p ↦ elim (chosen (eqb kind 2) _ _ (Some x) p.1) [
        | inl q ↦ subst Read (sym (eqb-true kind 2 q.0)) (get_takes key bytes x h q.1)
        | inr q ↦ elim (chosen (eqb kind 3) _ _ (Some x) q.1) [
          | inl r ↦ subst Read (sym (eqb-true kind 3 r.0)) (del_takes key bytes x h r.1)
          | inr r ↦ let s = passed (eqb kind 4) _ x r.1 in subst Read (sym (eqb-true kind 4 s.0)) (cas_takes key bytes x h s.1)
        ]
      ]
    ]

pub command_takes : (bytes : List ℕ) (x : Command × List ℕ) → command_at bytes ≡ Some x → IsReadAt bytes x.0 x.1
unfolding command_at
command_takes [] x e = absurd cc
command_takes (kind ∷ bytes) x e =
    let b = bind_some (key_at bytes) (λ key. command_body_at kind key.0 key.1) x e in
    let t = key_takes bytes b.0 b.1 in
    let read = kind_takes kind b.0.0 b.0.1 x t.1 b.2 in
    subst (λ (l : List ℕ). IsReadAt (kind ∷ l) x.0 x.1) (sym t.0) read

pub command_again : (c : Command) (rest : List ℕ) → IsValidCommand c → command_at (spelling c ++ rest) ≡ Some (c, rest)
unfolding command_at command_body_at
command_again (Put key value) rest h =
    let regrouped : spelling (Put key value) ++ rest ≡ 1 ∷ (key_spelling key ++ (value_spelling value ++ rest)) =
    ap (λ (l : List ℕ). 1 ∷ l) (append_assoc (key_spelling key) (value_spelling value) rest) in
    ap command_at regrouped ∙ rw (key_again key (value_spelling value ++ rest) h.0, value_again value rest h.1) refl
command_again (Get key) rest h = rw (key_again key rest h) refl
command_again (Del key) rest h = rw (key_again key rest h) refl
command_again (Cas key old new) rest h =
    let regrouped : spelling (Cas key old new) ++ rest ≡ 4 ∷ (key_spelling key ++ (choice_spelling old ++ (choice_spelling new ++ rest))) =
    ap (λ (l : List ℕ). 4 ∷ l) (append_assoc (key_spelling key) (choice_spelling old ++ choice_spelling new) rest
    ∙ ap (λ (l : List ℕ). key_spelling key ++ l) (append_assoc (choice_spelling old) (choice_spelling new) rest)) in
    ap command_at regrouped ∙ rw (
      key_again key (choice_spelling old ++ (choice_spelling new ++ rest)) h.0,
      choice_again old (choice_spelling new ++ rest) h.1,
      choice_again new rest h.2,
    ) refl

all_takes : (o : Option (Command × List ℕ)) (c : Command) → all_of o ≡ Some c → o ≡ Some (c, [])
all_takes None c e = absurd cc
all_takes (Some x) c e =
    let g = passed (eqb (length x.1) 0) (Some x.0) c e in
    let nothing : x.1 ≡ [] = nil_from_length x.1 (eqb-true _ _ g.0) in
    let same : x.0 ≡ c = some_is x.0 c g.1 in
    λ i. Some (same i, nothing i)

-- the two directions
pub spells_from_reading : (bytes : List ℕ) (c : Command) → command_of bytes ≡ Some c → Spells c bytes
unfolding command_of
spells_from_reading bytes c e =
    let t = command_takes bytes (c, []) (all_takes (command_at bytes) c e) in
    record { valid = t.valid; whole = t.parts ∙ append-nil (spelling c) }

pub reading_from_spells : (bytes : List ℕ) (c : Command) → Spells c bytes → command_of bytes ≡ Some c
unfolding command_of
reading_from_spells bytes c h =
    let again : command_at bytes ≡ Some (c, []) = ap command_at (h.whole ∙ sym (append-nil (spelling c))) ∙ command_again c [] h.valid in
    rw again refl

absent : (bytes : List ℕ) → None ≡ command_of bytes → (c : Command) → ¬ Spells c bytes
absent bytes e c h = let r : command_of bytes ≡ Some c = reading_from_spells bytes c h in absurd cc

pub none_is : (o : Option Command) (bytes : List ℕ) → o ≡ command_of bytes → IsNone o ↔ ((c : Command) → ¬ Spells c bytes)
none_is None bytes e = (λ n. absent bytes e, λ h. refl)
none_is (Some d) bytes e = (λ n. absurd cc, λ h. absurd (h d (spells_from_reading bytes d (sym e))))

pub some_from : (o : Option Command) (bytes : List ℕ) → o ≡ command_of bytes → (c : Command) → (o ≡ Some c) ↔ Spells c bytes
some_from o bytes e c = (λ h. spells_from_reading bytes c (sym e ∙ h), λ h. e ∙ reading_from_spells bytes c h)

-- no command begins another
pub no_prefix : (c d : Command) (prefix rest : List ℕ) → Spells c prefix → Spells d (prefix ++ rest) → rest ≡ []
no_prefix c d prefix rest p q =
    let first : command_at (prefix ++ rest) ≡ Some (c, rest) = ap (λ (l : List ℕ). command_at (l ++ rest)) p.whole ∙ command_again c rest p.valid in
    let second : command_at (prefix ++ rest) ≡ Some (d, []) = ap command_at (q.whole ∙ sym (append-nil (spelling d))) ∙ command_again d [] q.valid in
    let both = some_is (c, rest) (d, []) (sym first ∙ second) in
    ap (λ (p : Command × List ℕ). p.1) both
