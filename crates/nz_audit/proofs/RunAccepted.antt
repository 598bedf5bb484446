-- The answers that were accepted, by the events of a run's clients.
use Rattle.std.proofs.Common.{◌≡◌, ℕ, zero, suc, ◌+◌, ◌<◌, ◌≤◌, List, [], ◌∷◌, ◌++◌, length, drop, reverse, Some}
use Rattle.std.proofs.Common.{refl, sym, ap, subst, ◌∙◌, arith}
use Rattle.std.specs.Prelude.{slice_get, get_or}
use Rattle.std.proofs.lemmas.List.{take_all, at_drop_more, at_drop_all}
use Rattle.std.proofs.lemmas.Option.{slice_get-get_or}
use Rattle.nz_base.specs.declared.actor.Actor.TheVariants.{Replica}
use Rattle.nz_machine.specs.declared.event.Record.{Record}
use Rattle.nz_machine.specs.declared.journal.Journal.{Journal}
use Rattle.nz_machine.specs.declared.client_event.EventAt.{EventAt}
use Rattle.nz_machine.specs.runs.Events.{client_events, events}
use Rattle.nz_machine.specs.journals.Journals.{group_in, run_in}
use Rattle.nz_machine.specs.journals.Records.{silent_clock}
use Rattle.nz_machine.specs.journals.EventNotes.{all_at, events_at}
use Rattle.nz_machine.specs.runs.World.{World}
use Rattle.nz_replay.specs.Runs.{run_up_to}
use Rattle.nz_audit.specs.Prefixes.{requests_sent, AreAccepted}
use Rattle.nz_audit.proofs.AcceptedPrefixes.{Acceptances, no_acceptances, with_event, after_events, events_count, events_of_record, accepted_then}
use Rattle.nz_audit.proofs.SearchFinds.{accepted_first, is_at}
use Rattle.nz_replay.proofs.Replays.{run_then}
use Rattle.nz_audit.proofs.RunsOfSources.{run_length}
use Rattle.nz_audit.proofs.SentRequests.{sent_then}

events_then : (n : Acceptances) (E F : List EventAt) → after_events n (E ++ F) ≡ after_events (after_events n E) F
events_then n [] F = refl
events_then n (x ∷ E) F = events_then (with_event n x.place x.event) E F

-- the next event was read
pub one_read : (E : List EventAt) (i : ℕ) (x : EventAt) (n m : Acceptances) → i < length E → x ≡ get_or E i x → m ≡ with_event n x.place x.event
    → after_events n (drop i E) ≡ after_events no_acceptances E → after_events m (drop (i + 1) E) ≡ after_events no_acceptances E
one_read E i x n m lt at is h =
    let rest = drop (i + 1) E in
    ap (λ (k : Acceptances). after_events k rest) is ∙ ap (λ (y : EventAt). after_events n (y ∷ rest)) at ∙ sym (at_drop_more (after_events n) E i x lt) ∙ h

-- all were read
pub all_read : (E : List EventAt) (i : ℕ) (n : Acceptances) → length E ≤ i → after_events n (drop i E) ≡ after_events no_acceptances E
    → n.answers ≡ (after_events no_acceptances E).answers
all_read E i n past h = ap (λ (m : Acceptances). m.answers) (sym (at_drop_all (after_events n) E i past) ∙ h)

-- what was read is what the run up to here accepted
record AreReadUpTo (journal : Journal) (J : List Record) (n : Acceptances) : Type 0 where
  accepted : AreAccepted journal J n.answers
  sent : n.sent ≡ requests_sent (events (group_in journal) J)

read_up_to : (journal : Journal) (place : ℕ) → World (group_in journal) (run_in journal) → place ≤ length journal.records
    → AreReadUpTo journal (run_up_to journal place) (after_events no_acceptances (events_at (group_in journal) (run_up_to journal place)))
read_up_to journal zero w le = record { accepted = accepted_first journal [] refl; sent = refl }
read_up_to journal (suc k) w le =
    let g = group_in journal in
    let J = run_up_to journal k in
    let none = silent_clock 0 (Replica 0) 0 in
    let r = get_or journal.records k none in
    let at : slice_get journal.records k ≡ Some r = slice_get-get_or journal.records k none (omega (arith, le)) in
    let is = is_at journal k r w at in
    let E = client_events g r.actor r J in
    let n = after_events no_acceptances (events_at g J) in
    let h = read_up_to journal k w (omega (arith, le)) in
    let long : length J ≡ k = run_length journal k (omega (arith, le)) in
    let read : after_events no_acceptances (events_at g (r ∷ J)) ≡ after_events n (all_at k r.tick E) =
    events_then no_acceptances (events_at g J) (all_at (length J) r.tick E) ∙ ap (λ (p : ℕ). after_events n (all_at p r.tick E)) long in
    let more : suc k ≡ k + 1 = omega arith in
    subst (λ (l : List Record). AreReadUpTo journal l (after_events no_acceptances (events_at g l)))
    (sym (ap (run_up_to journal) more ∙ run_then journal k r at))
    (subst (AreReadUpTo journal (r ∷ J)) (sym read) (record {
      accepted = accepted_then journal k r.tick r E n is (events_of_record g r.actor r J) refl h.sent h.accepted;
      sent = events_count n k r.tick E ∙ sent_then g r J n.sent h.sent;
    }))

-- those of the whole run
pub accepted_in_run : (journal : Journal) (E : List EventAt) → World (group_in journal) (run_in journal)
    → E ≡ events_at (group_in journal) (run_in journal) → AreAccepted journal (run_in journal) (after_events no_acceptances E).answers
accepted_in_run journal E w is =
    let g = group_in journal in
    let whole : run_up_to journal (length journal.records) ≡ run_in journal = ap reverse (take_all (length journal.records) journal.records (omega arith)) in
    subst (λ (l : List EventAt). AreAccepted journal (run_in journal) (after_events no_acceptances l).answers) (sym is)
    (subst (λ (J : List Record). AreAccepted journal J (after_events no_acceptances (events_at g J)).answers) whole
    (read_up_to journal (length journal.records) w (omega arith)).accepted)
