-- What the function of this folder owes, proved.
use Rattle.nz_base.specs.declared.limits.TheConstants.{MAX_ENTRIES}
use Rattle.std.proofs.Common.{◌≡◌, ◌≤◌, List, not, length, sym, ap, subst, ◌∙◌, arith}
use Rattle.nz_base.specs.declared.key.Entry.{Entry}
use Rattle.nz_base.specs.Key.{id_of}
use Rattle.nz_base.specs.Log.{keys_of, has_id}
use Rattle.nz_base.proofs.Booleans.{length-filter_le}
use Rattle.nz_log.specs.Synced.{Log, left_out}
use Rattle.nz_log.specs.Keeping.{HaveCommonPrefix}
use Rattle.nz_log.proofs.Replacing.{left_out_after}
use Rattle.nz_log.proofs.log.HashedLog.replace_all.Goals as goal
use Rattle.nz_log.proofs.log.HashedLog.replace_all.Goals.{After-keep_others}

-- the others that are kept are those that are left out
are_left_out : (c : After-keep_others) → c.keep_others.new.entries.items ≡ left_out c.self.inside.entries c.args.list
are_left_out c =
    let es = c.self.inside.entries in
    let list = c.args.list in
    let count = c.common_prefix-common.result in
    let common =
    subst (λ (fs : List Entry). HaveCommonPrefix es fs count) c.as_slice.ensures
    (subst (λ (l : Log). HaveCommonPrefix l.entries c.as_slice.result.now count) (sym c.self.view_is) c.common_prefix-common.ensures) in
    let now : c.take_over.new.self.entries ≡ list = ap (λ (l : Log). l.entries) c.in_ok-take_over.ensures.ok ∙ c.in_ok-pages.ensures in
    c.keep_others.ensures
    ∙ ap (left_out c.in_ok-others.others.items) now
    ∙ ap (λ (xs : List Entry). left_out xs list) c.in_ok-others.ensures
    ∙ left_out_after es list count common

pub from_vec-requires : goal.from_vec-requires
from_vec-requires c =
    let es = c.self.inside.entries in
    let few : length es ≤ MAX_ENTRIES = c.self.invariant.sound.few in
    let less : length (left_out es c.args.list) ≤ length es = length-filter_le (λ (e : Entry). not (has_id (keys_of c.args.list) (id_of e.key))) es in
    let is : length c.keep_others.new.entries.items ≡ length (left_out es c.args.list) = ap length (are_left_out c) in
    omega (arith, few, less, is)

pub returns-clause-left_out : goal.returns-clause-left_out
returns-clause-left_out c =
    c.from_vec.ensures ∙ are_left_out (goal.at.returns-clause-left_out c).After-keep_others ∙ ap (λ (l : Log). left_out l.entries c.args.list) c.self.view_is
