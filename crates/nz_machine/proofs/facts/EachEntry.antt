-- What holds of each entry that a replica holds, and is no matter of deadlines, stays.
use Rattle.std.proofs.Common.{◌≡◌, ℕ, true, not, List, [], ◌∷◌, ◌++◌, map, take, Option, Some, None, refl, sym, subst, inl, inr}
use Rattle.std.specs.Prelude.{IfSome, ◌==◌}
use Rattle.std.specs.List.{AllByRecursion, filter}
use Rattle.std.specs.Option.{option_or}
use Rattle.std.proofs.lemmas.Bool.{cond_both}
use Rattle.nz_base.specs.declared.actor.Actor.{Actor}
use Rattle.nz_base.specs.declared.actor.Actor.TheVariants.{Replica}
use Rattle.nz_base.specs.declared.key.Id.{Id}
use Rattle.nz_base.specs.declared.key.Entry.{Entry}
use Rattle.nz_base.specs.Key.{id_eq, id_of}
use Rattle.nz_merge.specs.Merged.{merged}
use Rattle.nz_merge.specs.declared.report.Report.{Report}
use Rattle.nz_merge.proofs.Merging as merging
use Rattle.nz_log.specs.Synced.{Log, unsynced_part, stays_after, is_displaced, left_out}
use Rattle.nz_buffers.specs.Buffers.{find_id}
use Rattle.nz_msg.specs.declared.message.ViewChangeBody.{ViewChangeBody}
use Rattle.nz_msg.specs.declared.message.Message.{Message}
use Rattle.nz_msg.specs.declared.message.Message.TheVariants as messages
use Rattle.nz_machine.specs.declared.data.CollectedReport.{CollectedReport}
use Rattle.nz_machine.specs.rules.State.{ReplicaData, Out}
use Rattle.nz_machine.specs.rules.Replicas.{leads, is_down, first_replica}
use Rattle.nz_machine.specs.rules.Releases.{after_release}
use Rattle.nz_machine.specs.rules.Views.{alarm_rule}
use Rattle.nz_machine.specs.rules.Adopting.{with_log}
use Rattle.nz_machine.specs.rules.Begins.{report_of, with_own_report, with_report}
use Rattle.nz_machine.specs.rules.Rejoining.{crash_rule, restart_rule}
use Rattle.nz_machine.specs.runs.World.{Has}
use Rattle.nz_machine.specs.rules.LogMods.{entry_of_id, synced_with, is_still_early}
use Rattle.nz_machine.specs.rules.Step.{replica_message, tick_rule}
use Rattle.nz_machine.proofs.lists.EachItem.{all_append, all_filter, all_insert}
use Rattle.nz_machine.proofs.lists.ListParts.{all_take, all_drop, find_each}
use Rattle.nz_machine.specs.runs.Hearing.{Heard}
use Rattle.nz_machine.proofs.moves.Moves.{Brings, BringsLog, MaySync, HearsReport, Interval, Move, ToEarly, ToLate}
use Rattle.nz_machine.proofs.moves.Moves.{Release, Sync, Overtake, Enter, Drop, Collect, Begin, Start, Closed}
use Rattle.nz_machine.proofs.moves.MoveRules.{message_moves, tick_moves, alarm_moves}

-- what the law asks of a property: each entry that is brought has it, and it stays with another deadline
pub record IsOwn (f me : ℕ) (heard : Heard) (P : Entry → Type 0) : Type 0 where
  pub brought : (e : Entry) → Brings heard e → P e
  pub renamed : (s : ReplicaData) (e : Entry) (m : MaySync f me heard s e) → P m.old → id_eq (id_of e.key) (id_of m.old.key) ≡ true → P e

-- the entries of reports
abbrev pub EachReported : (Entry → Type 0) → List CollectedReport → Type 0
EachReported P rs = AllByRecursion (λ (r : CollectedReport). AllByRecursion P r.report.log) rs

pub record Each (P : Entry → Type 0) (l : Log) (es fs : List Entry) (rs : List CollectedReport) : Type 0 where
  pub log : AllByRecursion P l.entries
  pub early : AllByRecursion P es
  pub late : AllByRecursion P fs
  pub reports : EachReported P rs

abbrev pub EachEntry : (Entry → Type 0) → ReplicaData → Type 0
EachEntry P s = Each P s.log s.early s.late s.reports

-- an entry that was found has P, and the id
abbrev pub IsFoundFor : (Entry → Type 0) → Id → Entry → Type 0
IsFoundFor P id e = P e × (id_eq id (id_of e.key) ≡ true)

either_found : (R : Entry → Type 0) (first second : Option Entry) → IfSome first R → IfSome second R → IfSome (option_or first second) R
either_found R None second p q = q
either_found R (Some e) second p q = p

pub found_each : (P : Entry → Type 0) (s : ReplicaData) (id : Id) → EachEntry P s → IfSome (entry_of_id s id) (IsFoundFor P id)
found_each P s id h =
    either_found (IsFoundFor P id) (find_id (unsynced_part s.log) id)
    (option_or (find_id s.early id) (find_id s.late id)) (find_each P (unsynced_part s.log) id (all_drop P s.log.synced s.log.entries h.log))
    (either_found (IsFoundFor P id) (find_id s.early id) (find_id s.late id) (find_each P s.early id h.early) (find_each P s.late id h.late))

pub released_each : (P : Entry → Type 0) (f me : ℕ) (s : ReplicaData) (e : Entry) (es : List Entry) → EachEntry P s → AllByRecursion P (e ∷ es)
    → EachEntry P (after_release f me s e es)
released_each P f me s e es h all =
    let grown = all_append P s.log.entries (e ∷ []) h.log (all.0, tt) in
    record {
      log = cond_both (leads f me s) _ _ (λ (l : Log). AllByRecursion P l.entries) (λ _. grown) (λ _. grown);
      early = all.1;
      late = h.late;
      reports = h.reports;
    }

synced_each : (P : Entry → Type 0) (s : ReplicaData) (e : Entry) → P e → EachEntry P s → EachEntry P (synced_with s e)
synced_each P s e own h =
    let after = all_drop P s.log.synced s.log.entries h.log in
    record {
      log =
          all_append P (take s.log.synced s.log.entries) (e ∷ filter (stays_after e.key) (unsynced_part s.log))
          (all_take P s.log.synced s.log.entries h.log) (own, all_filter P (stays_after e.key) (unsynced_part s.log) after);
      early = all_filter P _ s.early h.early;
      late =
          all_filter P _ (s.late ++ filter (is_displaced e.key) (unsynced_part s.log))
          (all_append P s.late (filter (is_displaced e.key) (unsynced_part s.log)) h.late
          (all_filter P (is_displaced e.key) (unsynced_part s.log) after));
      reports = h.reports;
    }

-- ---- a log that is adopted, and reports

pub all_of_has : (P : Entry → Type 0) (es : List Entry) → ((e : Entry) → Has es e → P e) → AllByRecursion P es
all_of_has P [] each = tt
all_of_has P (e ∷ es) each = (each e (inl refl), all_of_has P es (λ x has. each x (inr has)))

-- each entry of the log that a message brings
log_brought : (heard : Heard) (sender view : ℕ) (list : List Entry) (commit : ℕ) → BringsLog heard sender view list commit → (e : Entry) → Has list e
    → Brings heard e
log_brought (Some (Replica r, messages.StartView b)) sender view list commit m e has = subst (λ (es : List Entry). Has es e) m.2 has
log_brought (Some (Replica r, messages.StateTell b)) sender view list commit m e has = subst (λ (es : List Entry). Has es e) m.2 has
log_brought _ sender view list commit none e has = absurd none

adopted_each : (P : Entry → Type 0) (s : ReplicaData) (list : List Entry) → AllByRecursion P list → EachEntry P s → EachEntry P (with_log s list)
adopted_each P s list all h =
    let early = all_filter P _ s.early h.early in
    let late = all_filter P _ (s.late ++ s.log.entries) (all_append P s.late s.log.entries h.late h.log) in
    record {
      log = all;
      early = all_filter P _ (left_out s.early list) early;
      late = all_append P (left_out (s.late ++ s.log.entries) list) _ late (all_filter P _ (left_out s.early list) early);
      reports = h.reports;
    }

each_report : (P : Entry → Type 0) (rs : List CollectedReport) → EachReported P rs
    → AllByRecursion (λ (c : Report). AllByRecursion P c.log) (map (λ r. r.report) rs)
each_report P [] all = tt
each_report P (r ∷ rs) all = (all.0, each_report P rs all.1)

collected_each : (P : Entry → Type 0) (f me : ℕ) (heard : Heard) → IsOwn f me heard P → (s : ReplicaData) (sender : ℕ) (b : ViewChangeBody)
    → HearsReport heard s sender b → EachEntry P s → EachEntry P (with_report s sender b)
collected_each P f me heard own s sender b m h =
    let Own : CollectedReport → Type 0 = λ r. AllByRecursion P r.report.log in
    let others = filter (λ (r : CollectedReport). not (r.report.sender == sender)) s.reports in
    let brought : AllByRecursion P b.entries = all_of_has P b.entries (λ e has. own.brought e (subst (λ (x : Heard). Brings x e) (sym m.is) has)) in
    record {
      log = h.log;
      early = h.early;
      late = h.late;
      reports = all_append Own others (report_of sender b ∷ []) (all_filter Own _ s.reports h.reports) (brought, tt);
    }

-- ---- the table

each_kept : (P : Entry → Type 0) (f me : ℕ) (heard : Heard) → IsOwn f me heard P → (s t : ReplicaData) (p q : Interval) → Move f me heard s p q t
    → EachEntry P s → EachEntry P t
each_kept P f me heard own s _ _ _ (ToEarly e m above) h =
    record { log = h.log; early = all_insert P s.early e h.early (own.brought e m.brought); late = all_filter P _ s.late h.late; reports = h.reports }
each_kept P f me heard own s _ _ _ (ToLate e m none) h =
    record { log = h.log; early = h.early; late = all_append P s.late (e ∷ []) h.late (own.brought e m.brought, tt); reports = h.reports }
each_kept P f me heard own s _ _ _ (Release e es m) h = released_each P f me s e es h (subst (λ (xs : List Entry). AllByRecursion P xs) m.first h.early)
each_kept P f me heard own s _ _ _ (Sync e m) h =
    let old = subst (λ o. IfSome o (IsFoundFor P (id_of e.key))) m.found (found_each P s (id_of e.key) h) in
    synced_each P s e (own.renamed s e m old.0 old.1) h
each_kept P f me heard own s _ _ _ (Overtake heard_mod) h =
    record {
      log = h.log;
      early = all_filter P (is_still_early s) s.early h.early;
      late = all_append P s.late (filter (λ e. not (is_still_early s e)) s.early) h.late (all_filter P _ s.early h.early);
      reports = h.reports;
    }
each_kept P f me heard own s _ _ _ (Enter view m) h = record { log = h.log; early = h.early; late = h.late; reports = tt }
each_kept P f me heard own s _ _ _ Drop h = record { log = h.log; early = h.early; late = h.late; reports = all_filter _ _ s.reports h.reports }
each_kept P f me heard own s _ _ _ (Collect sender b m) h = collected_each P f me heard own s sender b m h
each_kept P f me heard own s _ _ _ (Begin m) h =
    adopted_each P s (merged f (with_own_report me s)) (merging.entries P f (with_own_report me s) (h.log, each_report P s.reports h.reports)) h
each_kept P f me heard own s _ _ _ (Start view list commit m) h =
    adopted_each P s list (all_of_has P list (λ e has. own.brought e (log_brought heard m.sender view list commit m.brought e has))) h
each_kept P f me heard own s _ _ _ _ h = h

pub each_closed : (P : Entry → Type 0) (f me : ℕ) (heard : Heard) → IsOwn f me heard P → Closed f me heard (λ p t. EachEntry P t)
each_closed P f me heard own = record { kept = each_kept P f me heard own }

pub message_each : (P : Entry → Type 0) (f me : ℕ) (s : ReplicaData) (from : Actor) (m : Message) → IsOwn f me (Some (from, m)) P → EachEntry P s
    → EachEntry P (replica_message f me s from m).0
message_each P f me s from m own h = message_moves (λ p t. EachEntry P t) f me s from m (each_closed P f me (Some (from, m)) own) h

pub tick_each : (P : Entry → Type 0) (f me : ℕ) (s : ReplicaData) (clock : ℕ) → IsOwn f me None P → EachEntry P s → EachEntry P (tick_rule f me s clock).0
tick_each P f me s clock own h = tick_moves (λ p t. EachEntry P t) f me None (each_closed P f me None own) s clock h

pub alarm_each : (P : Entry → Type 0) (f me : ℕ) (s : ReplicaData) → IsOwn f me None P → EachEntry P s → EachEntry P (alarm_rule f me s).0
alarm_each P f me s own h = alarm_moves (λ p t. EachEntry P t) f me None (each_closed P f me None own) s h

-- one that has forgotten all has none
pub none_each : (P : Entry → Type 0) (f : ℕ) → EachEntry P (first_replica f)
none_each P f = record { log = tt; early = tt; late = tt; reports = tt }

pub crash_each : (P : Entry → Type 0) (f : ℕ) (s : ReplicaData) → EachEntry P (crash_rule f s).0
unfolding crash_rule
crash_each P f s = record { log = tt; early = tt; late = tt; reports = tt }

pub restart_each : (P : Entry → Type 0) (f me : ℕ) (s : ReplicaData) (nonce : ℕ) → EachEntry P s → EachEntry P (restart_rule f me s nonce).0
unfolding restart_rule
restart_each P f me s nonce h =
    cond_both (is_down s.status) _ (s, []) (λ (t : ReplicaData × List Out). EachEntry P t.0)
    (λ _. record { log = tt; early = tt; late = tt; reports = tt }) (λ _. h)
