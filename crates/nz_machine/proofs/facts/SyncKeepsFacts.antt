-- Each rule by which followers agree with the leader keeps what a replica's state always has.
use Rattle.std.proofs.Common.{◌≡◌, ℕ, ◌≤◌, true, [], length, refl, arith}
use Rattle.std.specs.Prelude.{max, slice_index}
use Rattle.std.specs.List.{AllByRecursion}
use Rattle.nz_base.specs.declared.limits.TheConstants.{MAX_ENTRIES}
use Rattle.nz_msg.specs.Fields as fields
use Rattle.nz_msg.specs.Messages.{log_mod, fetch_reply}
use Rattle.nz_msg.specs.declared.message.LogModBody.{LogModBody}
use Rattle.nz_msg.specs.declared.message.FetchReplyBody.{FetchReplyBody}
use Rattle.nz_machine.specs.rules.State.{ReplicaData}
use Rattle.nz_machine.specs.rules.Facts.{FitsEntry, HasFacts}
use Rattle.nz_machine.specs.rules.Replicas.{is_normal, leads}
use Rattle.nz_machine.specs.rules.LogMods.{with_ack, with_commit}
use Rattle.nz_machine.proofs.facts.Guards.{IsLeader}
use Rattle.nz_machine.proofs.facts.SentFields.{keys_are, entries_are}
use Rattle.nz_machine.proofs.lists.Tables.{set_long, reported_low, noted_low}

-- ---- what a message brings

pub keys_fit : (b : LogModBody) → log_mod.fits b → AllByRecursion fields.key.fits b.keys
keys_fit b fits = keys_are [] b.keys fits.1.1.1.1.1.1

pub entries_fit : (b : FetchReplyBody) → fetch_reply.fits b → AllByRecursion FitsEntry b.entries
entries_fit b fits = entries_are [] b.entries fits.1.1.1

-- ---- the commit point and the reports of sync points

pub commit_keeps : (f me : ℕ) (s : ReplicaData) (commit : ℕ) → HasFacts f me s → commit ≤ s.log.synced → HasFacts f me (record s { commit = commit })
commit_keeps f me s commit h low = grind (arith, h, low)

pub tallied_low : (f me named : ℕ) (s : ReplicaData) → IsLeader f me s.status s.view named → HasFacts f me s → (with_commit f me s).commit ≤ s.log.synced
tallied_low f me named s leader h =
    let d = h.executed.led leader.normal leader.leads in
    let most = reported_low f me (length s.log.entries) s.ack d.acks in
    let agreed = d.synced in
    let so_far = h.commit in
    omega (arith, most, agreed, so_far)

pub ack_keeps : (f me : ℕ) (s : ReplicaData) (sender count : ℕ) → HasFacts f me s → count ≤ length s.log.entries → HasFacts f me (with_ack s sender count)
ack_keeps f me s sender count h low =
    let most = h.entries.few in
    let long = set_long s.ack sender (max (slice_index s.ack sender) count) in
    let few = noted_low MAX_ENTRIES s.ack sender count (omega (arith, low, most)) h.tables.few in
    let acks = noted_low (length s.log.entries) s.ack sender count low in
    grind (arith, h, long, few, acks)

-- the leader takes a report of at most its own log
pub report_keeps : (f me : ℕ) (s : ReplicaData) (sender synced : ℕ) → HasFacts f me s → is_normal s.status ≡ true
    → leads f me s ≡ true → synced ≤ length s.log.entries
    → HasFacts f me (with_commit f me (with_ack s sender synced))
report_keeps f me s sender synced h normal lead low =
    let noted = with_ack s sender synced in
    let k = ack_keeps f me s sender synced h low in
    commit_keeps f me noted (with_commit f me noted).commit k (tallied_low f me s.view noted (record { normal = normal; same = refl; leads = lead }) k)
