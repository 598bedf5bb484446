-- The release rule releases what is due.
use Rattle.std.proofs.Common.{◌≡◌, ℕ, suc, ◌+◌, ◌≤◌, Bool, true, false, List, [], ◌∷◌, ◌++◌, length, min}
use Rattle.std.proofs.Common.{refl, sym, ap, subst, ◌∙◌, inl, inr, arith, length-append, append_assoc}
use Rattle.std.proofs.lemmas.Bool.{lt-ltb, cases_Bool, and_from}
use Rattle.std.proofs.lemmas.List.{append-nil}
use Rattle.nz_base.specs.declared.key.Entry.{Entry}
use Rattle.nz_base.specs.Log.{keys_of, AreRising}
use Rattle.nz_base.proofs.Logs.{keys_append, rising_back}
use Rattle.nz_base.specs.declared.limits.TheConstants.{MAX_ENTRIES, MAX_CLOCK}
use Rattle.nz_log.specs.Synced.{Log}
use Rattle.nz_buffers.specs.Buffers.{is_due, held_back, released}
use Rattle.nz_buffers.proofs.Releasing.{none_due}
use Rattle.nz_machine.specs.rules.State.{ReplicaData}
use Rattle.nz_machine.specs.rules.Facts.{HasFacts}
use Rattle.nz_machine.specs.rules.Replicas.{is_normal, leads}
use Rattle.nz_machine.specs.rules.Releases.{log_with_entry, after_release, may_release, releases, at_clock, release_rule}

-- An entry that is logged is the last one, whoever leads.
pub entries_appended : (b : Bool) (log : Log) (e : Entry) → (log_with_entry b log e).entries ≡ log.entries ++ e ∷ []
entries_appended true log e = refl
entries_appended false log e = refl

-- the log is longer by what was due, and what was not is left
pub record HasReleased (s : ReplicaData) (es : List Entry) (clock : ℕ) (t : ReplicaData) : Type 0 where
  pub log : t.log.entries ≡ s.log.entries ++ released es clock
  pub early : t.early ≡ held_back es clock

due_first : (f me : ℕ) (s : ReplicaData) (e : Entry) (es : List Entry) (t : ReplicaData) → is_due s.clock e ≡ true
    → HasReleased (after_release f me s e es) es s.clock t → HasReleased s (e ∷ es) s.clock t
due_first f me s e es t due rest = record {
  log =
      rest.log ∙ ap (λ (xs : List Entry). xs ++ released es s.clock) (entries_appended (leads f me s) s.log e)
      ∙ append_assoc s.log.entries (e ∷ []) (released es s.clock)
      ∙ (rw due refl);
  early = rest.early ∙ (rw due refl);
}

releases_due : (f me : ℕ) (s : ReplicaData) (es : List Entry) → AreRising (keys_of es) → s.early ≡ es
    → length s.log.entries + length (released es s.clock) ≤ MAX_ENTRIES
    → HasReleased s es s.clock (releases f me s es).0
unfolding releases
releases_due f me s [] rising is few = record { log = sym (append-nil s.log.entries); early = is }
releases_due f me s (e ∷ es) rising is few =
    elim (cases_Bool (is_due s.clock e)) [
      | inl due ↦
          let next = after_release f me s e es in
          let count : length (released (e ∷ es) s.clock) ≡ suc (length (released es s.clock)) = rw due refl in
          let long : length next.log.entries ≡ length s.log.entries + 1 =
          ap length (entries_appended (leads f me s) s.log e) ∙ length-append s.log.entries (e ∷ []) in
          let may : may_release s e ≡ true = and_from _ _ due (lt-ltb _ _ (omega (arith, count, few))) in
          rw may (due_first f me s e es (releases f me next es).0 due (releases_due f me next es rising.1 refl (omega (arith, count, few, long))))
      | inr not_due ↦
          let none = none_due s.clock e es not_due rising.0 in
          let nothing : released (e ∷ es) s.clock ≡ [] = rw not_due none.0 in
          let whole : held_back (e ∷ es) s.clock ≡ e ∷ es = rw not_due (ap (λ (xs : List Entry). e ∷ xs) none.1) in
          let stays : may_release s e ≡ false = rw not_due refl in
          rw stays (record { log = sym (append-nil s.log.entries) ∙ ap (λ (xs : List Entry). s.log.entries ++ xs) (sym nothing); early = is ∙ sym whole })
    ]

pub release_due : (f me : ℕ) (s : ReplicaData) (clock : ℕ) → HasFacts f me s → is_normal s.status ≡ true
    → length s.log.entries + length (released s.early (min clock MAX_CLOCK)) ≤ MAX_ENTRIES
    → HasReleased s s.early (min clock MAX_CLOCK) (release_rule f me s clock).0
unfolding release_rule
release_due f me s clock h normal few =
    let now = at_clock s clock in
    let all =
    releases_due f me now s.early (rising_back (keys_of s.log.entries) (keys_of s.early)
    (subst AreRising (keys_append s.log.entries s.early) h.entries.arranged.rising)) refl few in
    rw normal (record { log = all.log; early = all.early })
