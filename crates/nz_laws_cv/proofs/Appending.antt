-- What a tick releases: entries are appended to the log, and nothing else changes that the laws read.
use Rattle.std.proofs.Common.{◌≡◌, ℕ, Bool, true, false, List, [], ◌∷◌, length, refl, ◌∙◌}
use Rattle.std.proofs.lemmas.Bool.{cond_both}
use Rattle.nz_base.specs.declared.key.Entry.{Entry}
use Rattle.nz_base.proofs.Prefixes.{prefix_self, prefix_more, prefix_then}
use Rattle.nz_base.proofs.Booleans.{true_and_false}
use Rattle.nz_log.specs.Synced.{Log}
use Rattle.nz_machine.specs.rules.State.{ReplicaData, Out}
use Rattle.nz_machine.specs.rules.Replicas.{is_normal, leads}
use Rattle.nz_machine.specs.rules.Releases.{log_with_entry, after_release, releases, release_rule, may_release, at_clock}
use Rattle.nz_laws_cv.proofs.Outcomes.{law_state, Appends}

-- one entry more

appends_none : (led : Bool) (log : Log) → Appends led log log
appends_none led log = record { entries = prefix_self log.entries; leads = λ e h. h; follows = λ e. refl }

one_more : (led : Bool) (log : Log) (e : Entry) → Appends led log (log_with_entry led log e)
one_more true log e = record { entries = prefix_more log.entries (e ∷ []); leads = λ h k. refl; follows = λ h. absurd cc }
one_more false log e = record { entries = prefix_more log.entries (e ∷ []); leads = λ h k. absurd cc; follows = λ h. refl }

one_leads : (led : Bool) (log : Log) (e : Entry) → led ≡ true → (log_with_entry led log e).synced ≡ length (log_with_entry led log e).entries
one_leads true log e h = refl
one_leads false log e h = absurd cc

appends_then : (led : Bool) (log : Log) (e : Entry) (c : Log) → Appends led (log_with_entry led log e) c → Appends led log c
appends_then led log e c rest = record {
  entries = prefix_then log.entries (log_with_entry led log e).entries c.entries (one_more led log e).entries rest.entries;
  leads = λ h k. rest.leads h (one_leads led log e h);
  follows = λ h. rest.follows h ∙ (one_more led log e).follows h;
}

-- what is released
pub record IsRelease (f me : ℕ) (s t : ReplicaData) : Type 0 where
  pub state : law_state t ≡ law_state (record s { log = t.log })
  pub log : Appends (leads f me s) s.log t.log

pub releases_are : (f me : ℕ) (s : ReplicaData) (es : List Entry) → IsRelease f me s (releases f me s es).0
unfolding releases
releases_are f me s [] = record { state = refl; log = appends_none (leads f me s) s.log }
releases_are f me s (e ∷ es) =
    cond_both (may_release s e) _ (s, []) (λ (t : ReplicaData × List Out). IsRelease f me s t.0)
    (λ _. let rest = releases_are f me (after_release f me s e es) es in record {
      state = rest.state;
      log = appends_then (leads f me s) s.log e (releases f me (after_release f me s e es) es).0.log rest.log;
    })
    (λ _. record { state = refl; log = appends_none (leads f me s) s.log })

pub release_is : (f me : ℕ) (s : ReplicaData) (clock : ℕ) → IsRelease f me s (release_rule f me s clock).0
unfolding release_rule
release_is f me s clock =
    cond_both (is_normal s.status) (releases f me (at_clock s clock) s.early) (at_clock s clock, []) (λ (t : ReplicaData × List Out). IsRelease f me s t.0)
    (λ _. let all = releases_are f me (at_clock s clock) s.early in record { state = all.state; log = all.log })
    (λ _. record { state = refl; log = appends_none (leads f me s) s.log })

-- out of normal operation nothing is released
pub no_release : (f me : ℕ) (s : ReplicaData) (clock : ℕ) → is_normal s.status ≡ false → law_state (release_rule f me s clock).0 ≡ law_state s
unfolding release_rule
no_release f me s clock h =
    cond_both (is_normal s.status) (releases f me (at_clock s clock) s.early) (at_clock s clock, [])
    (λ (t : ReplicaData × List Out). law_state t.0 ≡ law_state s)
    (λ normal. true_and_false (is_normal s.status) normal h)
    (λ _. refl)
