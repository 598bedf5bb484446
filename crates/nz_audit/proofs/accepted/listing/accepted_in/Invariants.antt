-- What the loops of the function of this folder keep.
use Rattle.std.proofs.Common.{◌≡◌, drop}
use Rattle.nz_audit.proofs.AcceptedPrefixes.{no_acceptances, after_events}
use Rattle.nz_audit.proofs.accepted.listing.accepted_in.Given as goal

-- what was read, and then with the events that are left, is all
abbrev pub invariant-loop-next : goal.invariant-loop-next
invariant-loop-next l = after_events (record { answers = l.accepted.items; sent = l.sent }) (drop l.next-index l.events) ≡ after_events no_acceptances l.events
