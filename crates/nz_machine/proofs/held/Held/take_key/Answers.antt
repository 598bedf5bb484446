-- What the function of this folder owes, proved.
use Rattle.std.proofs.Common.{◌≡◌, false, sym, ap, subst, ◌∙◌}
use Rattle.std.specs.Option.{option_map}
use Rattle.nz_base.specs.declared.key.Id.{Id}
use Rattle.nz_base.specs.declared.key.Entry.{Entry}
use Rattle.nz_base.specs.Log.{keys_of, has_id}
use Rattle.nz_log.specs.Synced.{synced_part}
use Rattle.nz_machine.specs.rules.LogMods.{sync_keys}
use Rattle.nz_machine.specs.rules.Taking.{found_in, with_parts, with_held}
use Rattle.nz_machine.proofs.facts.KeysKeepFacts.{may_sync_true, apart_synced}
use Rattle.nz_machine.proofs.facts.Takes.{key_refused, key_missing, key_synced, command_fits, same_apart}
use Rattle.nz_machine.proofs.held.Held.take_key.Goals as goal

pub returns-then-not-may_sync-clause-taken : goal.returns-then-not-may_sync-clause-taken
returns-then-not-may_sync-clause-taken c =
    λ s keys. key_refused (with_held s c.args.self.now) c.args.key keys
    (sym c.may_sync.ensures ∙ c.if-not-may_sync.true)

pub command_of-requires : goal.command_of-requires
command_of-requires c =
    subst (λ (j : Id). has_id (keys_of (synced_part c.args.self.now.log)) j ≡ false) (sym c.id.ensures)
    (may_sync_true c.args.self.now.log c.args.key (sym c.may_sync.ensures ∙ c.if-not-may_sync.false)).fresh

pub sync_entry-requires-clause-above : goal.sync_entry-requires-clause-above
sync_entry-requires-clause-above c = (may_sync_true c.args.self.now.log c.args.key (sym c.may_sync.ensures ∙ c.if-not-may_sync.false)).above

pub sync_entry-requires-clause-fresh : goal.sync_entry-requires-clause-fresh
sync_entry-requires-clause-fresh c = (may_sync_true c.args.self.now.log c.args.key (sym c.may_sync.ensures ∙ c.if-not-may_sync.false)).fresh

pub sync_entry-requires-clause-room : goal.sync_entry-requires-clause-room
sync_entry-requires-clause-room c = (may_sync_true c.args.self.now.log c.args.key (sym c.may_sync.ensures ∙ c.if-not-may_sync.false)).room

pub returns-in-None-clause-taken : goal.returns-in-None-clause-taken
returns-in-None-clause-taken c =
    let found =
    c.in_ok-command_of.ensures ∙ ap
    (λ (j : Id). option_map (λ (e : Entry). e.command) (found_in c.args.self.now.log c.args.self.now.early c.args.self.now.late j)) c.id.ensures in
    λ s keys. key_missing (with_held s c.args.self.now) c.args.key keys
    (sym c.may_sync.ensures ∙ c.if-not-may_sync.false) (sym found ∙ c.in-None.is)

pub returns-in_ok-sync_entry-in-Some-clause-apart : goal.returns-in_ok-sync_entry-in-Some-clause-apart
returns-in_ok-sync_entry-in-Some-clause-apart c =
    let found =
    c.in_ok-command_of.ensures ∙ ap
    (λ (j : Id). option_map (λ (e : Entry). e.command) (found_in c.args.self.now.log c.args.self.now.early c.args.self.now.late j)) c.id.ensures in
    let may = may_sync_true c.args.self.now.log c.args.key (sym c.may_sync.ensures ∙ c.if-not-may_sync.false) in
    let fits =
    command_fits c.args.self.now.log c.args.self.now.early c.args.self.now.late c.args.key c.in-Some.command c.requires.apart
    c.requires.fit (sym found ∙ c.in-Some.is) in
    let done =
    apart_synced c.args.self.now.log c.args.self.now.early c.args.self.now.late
    (record { key = c.args.key; command = c.in-Some.command }) c.requires.apart fits may.above may.fresh may.room in
    let log = c.in_ok-sync_entry-in-Some.ensures.log in
    let early = c.in_ok-sync_entry-in-Some.ensures.early in
    let late = c.in_ok-sync_entry-in-Some.ensures.late in
    same_apart _ _ _ _ _ _ log early late done

pub returns-in_ok-sync_entry-in-Some-clause-taken : goal.returns-in_ok-sync_entry-in-Some-clause-taken
returns-in_ok-sync_entry-in-Some-clause-taken c =
    let found =
    c.in_ok-command_of.ensures ∙ ap
    (λ (j : Id). option_map (λ (e : Entry). e.command) (found_in c.args.self.now.log c.args.self.now.early c.args.self.now.late j)) c.id.ensures in
    let log = c.in_ok-sync_entry-in-Some.ensures.log in
    let early = c.in_ok-sync_entry-in-Some.ensures.early in
    let late = c.in_ok-sync_entry-in-Some.ensures.late in
    λ s keys. key_synced (with_held s c.args.self.now) c.args.key keys
    c.in-Some.command (sym c.may_sync.ensures ∙ c.if-not-may_sync.false) (sym found ∙ c.in-Some.is)
    ∙ (λ i. sync_keys (with_parts s (sym log i) (sym early i) (sym late i)) keys)
