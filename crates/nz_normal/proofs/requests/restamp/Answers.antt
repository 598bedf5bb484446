-- What the function of this folder owes, proved.
use Rattle.std.proofs.Common.{◌≡◌, ℕ, true, cond, List, Some, None, IsTrue, refl, sym, ap, subst, ◌∙◌}
use Rattle.std.specs.Prelude.{nat_le}
use Rattle.std.proofs.lemmas.Option.{cond_some}
use Rattle.nz_base.specs.declared.key.Entry.{Entry}
use Rattle.nz_base.specs.Log.{keys_of, is_above_last}
use Rattle.nz_base.specs.declared.limits.TheConstants.{MAX_DEADLINE}
use Rattle.nz_msg.specs.declared.message.TimedBody.{TimedBody}
use Rattle.nz_log.specs.Places.{last_entry}
use Rattle.nz_log.specs.Synced.{Log}
use Rattle.nz_machine.specs.rules.Requests.{entry_at, next_deadline}
use Rattle.nz_machine.proofs.facts.RulesKeepFacts.{above_next}
use Rattle.nz_normal.proofs.requests.restamp.Goals as goal

-- a key with the deadline that was found is above the log's last
stamped_above : (log : List Entry) (b : TimedBody) (deadline : ℕ) (e : Entry)
    → Some deadline ≡ cond (nat_le (next_deadline (last_entry log)) MAX_DEADLINE) (Some (next_deadline (last_entry log))) None
    → e ≡ entry_at deadline b → is_above_last (keys_of log) e.key ≡ true
stamped_above log b deadline e found is =
    let same : next_deadline (last_entry log) ≡ deadline =
    (cond_some (nat_le (next_deadline (last_entry log)) MAX_DEADLINE) (next_deadline (last_entry log)) deadline (sym found)).1 in
    let entry : e ≡ entry_at (next_deadline (last_entry log)) b = is ∙ ap (λ (n : ℕ). entry_at n b) (sym same) in
    subst (λ (f : Entry). is_above_last (keys_of log) f.key ≡ true) (sym entry) (above_next log b (last_entry log) refl)

pub keep_early-requires-clause-above : goal.keep_early-requires-clause-above
keep_early-requires-clause-above c =
    subst (λ (l : Log). IsTrue (is_above_last (keys_of l.entries) c.in_ok-entry-in-Some.entry.key)) c.log.ensures
    (stamped_above c.log.result.now.entries c.args.body.now c.in-Some.deadline c.in_ok-entry-in-Some.entry c.in-Some.ensures c.in_ok-entry-in-Some.ensures)
