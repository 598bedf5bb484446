-- What the function of this folder owes, proved.
use Rattle.nz_base.specs.declared.limits.TheConstants.{MAX_ENTRIES}
use Rattle.std.proofs.Common.{◌≡◌, ◌+◌, ◌<◌, ◌≤◌, true, false, List, ℕ, length, sym, ap, subst, ◌∙◌, arith, Some, if◌then◌else◌}
use Rattle.std.specs.Map.{lookup}
use Rattle.std.specs.Vec.{vec_capacity, vec_len}
use Rattle.nz_base.specs.declared.key.Id.{Id}
use Rattle.nz_base.specs.declared.key.Entry.{Entry}
use Rattle.nz_base.specs.Key.{id_of, id_eq}
use Rattle.nz_base.specs.Log.{keys_of, has_id, is_above_last}
use Rattle.nz_log.specs.Synced.{Log, IsSound, synced_part, log_with_synced}
use Rattle.nz_log.specs.Keeping.{IsSummed}
use Rattle.nz_log.proofs.Modifying.{kept_after, modified_sound}
use Rattle.nz_log.proofs.Keeping.{midway_put}
use Rattle.nz_log.proofs.Putting.{put_long, put_here, put_others}
use Rattle.nz_log.proofs.log.HashedLog.put_in.Goals as goal

pub keep_above-requires-clause-midway : goal.keep_above-requires-clause-midway
keep_above-requires-clause-midway c =
    let e = c.args.entry in
    let log : Log = record { entries = c.self.inside.entries; synced = c.self.inside.synced } in
    let fresh = subst (λ (l : Log). has_id (keys_of (synced_part l)) (id_of e.key) ≡ false) (sym c.self.view_is) c.requires.fresh in
    midway_put log e c.self.inside.digests.items c.self.inside.places.entries
    (λ i. lookup (id_eq i) c.set_place.new.places.entries) c.insert.new.self c.self.invariant fresh c.in_ok-insert.ensures.ok
    (λ i. c.set_place.ensures.value i
    ∙ ap (λ (j : Id). if id_eq j i then Some log.synced else lookup (id_eq i) c.reserve-2.new.self.entries) c.id.ensures
    ∙ ap (λ (m : List (Id × ℕ)). if id_eq (id_of e.key) i then Some log.synced else lookup (id_eq i) m) c.reserve-2.ensures.entries)

pub put_digest-requires : goal.put_digest-requires
put_digest-requires c =
    let e = c.args.entry in
    let es = c.self.inside.entries in
    let place = c.self.inside.synced in
    let within : place ≤ length es = c.self.invariant.sound.within in
    let put = c.insert.new.self in
    let is = c.in_ok-insert.ensures.ok in
    let long : length put ≡ length es + 1 = put_long es put place e within is in
    let count : length c.self.inside.digests.items ≡ length es = c.self.invariant.summed.count in
    let items : length c.reserve.new.self.items ≡ length c.self.inside.digests.items = ap length c.reserve.ensures.items in
    let size : length c.reserve.new.self.items ≡ vec_len c.reserve.new.self = sym c.reserve.new.self.ok.0 in
    let ok : vec_len c.reserve.new.self + 1 ≤ vec_capacity c.reserve.new.self = c.in_ok-reserve.ensures.ok in
    record {
      within = omega (arith, long, within);
      room = omega (arith, long, count, items, size, ok);
      here = put_here es put place e within is;
      others = subst (λ (xs : List Entry). IsSummed xs c.reserve.new.self.items) (sym (put_others es put place e within is))
          (subst (IsSummed es) (sym c.reserve.ensures.items) c.self.invariant.summed);
    }

pub invariant_of-self-2 : goal.invariant_of-self-2
invariant_of-self-2 c =
    let e = c.args.entry in
    let es = c.self.inside.entries in
    let place = c.self.inside.synced in
    let log : Log = record { entries = es; synced = place } in
    let above = subst (λ (l : Log). is_above_last (keys_of (synced_part l)) e.key ≡ true) (sym c.self.view_is) c.requires.above in
    let fresh = subst (λ (l : Log). has_id (keys_of (synced_part l)) (id_of e.key) ≡ false) (sym c.self.view_is) c.requires.fresh in
    let room = subst (λ (l : Log). length l.entries < MAX_ENTRIES) (sym c.self.view_is) c.requires.room in
    let is =
    kept_after es place e c.insert.new.self c.keep_above.new.entries c.self.invariant.sound.within
    c.in_ok-insert.ensures.ok c.keep_above.ensures.entries in
    record {
      sound =
          subst (λ (xs : List Entry). IsSound (record { entries = xs; synced = place + 1 })) (sym is)
          (modified_sound log e c.self.invariant.sound above fresh room);
      summed = subst (λ (xs : List Entry). IsSummed xs c.put_digest.new.digests.items) (sym c.keep_above.ensures.entries) c.put_digest.ensures;
      found = c.keep_above.ensures.places;
    }

pub returns-clause-ok : goal.returns-clause-ok
returns-clause-ok c =
    let e = c.args.entry in
    let es = c.self.inside.entries in
    let place = c.self.inside.synced in
    let is =
    kept_after es place e c.insert.new.self c.keep_above.new.entries c.self.invariant.sound.within
    c.in_ok-insert.ensures.ok c.keep_above.ensures.entries in
    ap (λ (xs : List Entry). record { entries = xs; synced = place + 1 }) is ∙ ap (λ (l : Log). log_with_synced l e) c.self.view_is
