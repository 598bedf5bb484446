-- What the function of this folder owes, proved.
use Rattle.std.proofs.Common.{◌≡◌, ◌+◌, ◌++◌, ◌∷◌, [], List, Some, length, min, sym, ap, subst, ◌∙◌, arith}
use Rattle.std.specs.Prelude.{slice_get}
use Rattle.std.proofs.lemmas.List.{length-map}
use Rattle.nz_base.specs.declared.key.Key.{Key}
use Rattle.nz_base.specs.declared.key.Entry.{Entry}
use Rattle.nz_base.specs.Log.{keys_of}
use Rattle.nz_log.specs.Synced.{Log}
use Rattle.nz_msg.specs.Fields.{keys}
use Rattle.nz_machine.specs.rules.Facts.{FitsEntry}
use Rattle.nz_machine.proofs.lists.EachItem.{all_of_prefix}
use Rattle.nz_machine.proofs.facts.FitReplicas.{led_log, log_mod_keys_fit}
use Rattle.nz_sync.proofs.Broadcasts.{next_key, all_taken}
use Rattle.nz_sync.proofs.broadcast.keys_from.Goals as goal

pub loop-place-preserved : goal.loop-place-preserved
loop-place-preserved c =
    let e = c.get.result.now in
    let at = subst (λ (l : Log). slice_get l.entries c.loop-place.place ≡ Some e) c.log-in-loop-place.ensures c.get.ensures in
    c.in_ok-push.ensures.ok ∙ ap (λ (ks : List Key). ks ++ e.key ∷ []) c.loop-place.invariant
    ∙ sym (next_key c.args.state.now.state.log.entries c.args.start c.loop-place.place e c.loop-place.auto.place at)

pub returns-clause-value : goal.returns-clause-value
returns-clause-value c =
    let es = c.args.state.now.state.log.entries in
    let long = c.len.ensures ∙ ap (λ (l : Log). length l.entries) c.log.ensures in
    let same = length-map es (λ (e : Entry). e.key) in
    let few = c.show_invariant.ensures.facts.entries.few in
    let stop : c.min-end.result ≡ min (length (keys_of es)) (c.args.start + 64) = omega (arith, long, same, few, c.min-end.ensures, c.saturating_add.ensures) in
    c.loop-place.invariant ∙ all_taken
    (keys_of es) c.args.start c.loop-place.place c.min-end.result stop c.loop-place.auto.place c.loop-place-test.false c.loop-place.auto.place-end

pub returns-clause-fits : goal.returns-clause-fits
returns-clause-fits c =
    let s = c.args.state.now.state in
    let es = s.log.entries in
    let facts = c.show_invariant.ensures.facts in
    let long = c.len.ensures ∙ ap (λ (l : Log). length l.entries) c.log.ensures in
    let same = length-map es (λ (e : Entry). e.key) in
    let few = facts.entries.few in
    let stop : c.min-end.result ≡ min (length (keys_of es)) (c.args.start + 64) = omega (arith, long, same, few, c.min-end.ensures, c.saturating_add.ensures) in
    let all =
    c.loop-place.invariant ∙ all_taken
    (keys_of es) c.args.start c.loop-place.place c.min-end.result stop c.loop-place.auto.place c.loop-place-test.false
    c.loop-place.auto.place-end in
    subst (λ (ks : List Key). keys.fits ks) (sym all)
    (log_mod_keys_fit s c.args.start (led_log c.args.state.now.f c.args.state.now.me s facts)
    (all_of_prefix FitsEntry es (s.early ++ s.late) facts.entries.arranged.fit))
