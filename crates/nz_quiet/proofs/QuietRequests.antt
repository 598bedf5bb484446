-- A timed message above every clock goes to early, and a proxy whose delays were all one tick has one of two bounds.
use Rattle.std.proofs.Common.{◌≡◌, ℕ, Bool, true, false, cond, List, [], None}
use Rattle.std.proofs.Common.{sym, ap, ◌∙◌}
use Rattle.indexmap.specs.IndexMap.{insert_entry}
use Rattle.nz_base.specs.declared.key.Entry.{Entry}
use Rattle.nz_base.specs.Key.{id_eq, id_of}
use Rattle.nz_base.specs.Log.{keys_of, has_id, is_above_last}
use Rattle.nz_log.specs.Places.{place_of}
use Rattle.nz_buffers.specs.Buffers.{insert_by_key, without}
use Rattle.nz_msg.specs.declared.message.TimedBody.{TimedBody}
use Rattle.nz_machine.specs.rules.State.{ReplicaData}
use Rattle.nz_machine.specs.rules.Replicas.{is_normal, leads, key_with_deadline}
use Rattle.nz_machine.specs.rules.Requests.{origin_of, with_origin, to_early, to_late, entry_at, after_restamp, after_placing, is_full, after_timed}
use Rattle.nz_machine.specs.rules.Requests.{request_rule}

-- ---- a request

-- the state with the request in early
abbrev with_request : ReplicaData → ℕ → TimedBody → ReplicaData
with_request s p b = record s {
  origin = insert_entry id_eq s.origin b.id (origin_of s p b);
  early = insert_by_key s.early (entry_at b.deadline b);
}

pub goes_early : (f me : ℕ) (s : ReplicaData) (p : ℕ) (b : TimedBody) → is_normal s.status ≡ true → place_of s.log.entries b.id ≡ None
    → has_id (keys_of s.early) b.id ≡ false → is_full s ≡ false → is_above_last (keys_of s.log.entries) (key_with_deadline b.deadline b.id) ≡ true
    → s.late ≡ [] → request_rule f me s p b ≡ (with_request s p b, [])
unfolding request_rule
goes_early f me s p b normal unplaced not_early not_full above none_late =
    let o = with_origin s p b in
    let e = entry_at b.deadline b in
    let early = to_early o e in
    let late = cond (leads f me o) (after_restamp o b) (to_late o e) in
    let emptied : without s.late (id_of e.key) ≡ s.late = ap (λ (xs : List Entry). without xs (id_of e.key)) none_late ∙ sym none_late in
    ap (λ (x : Bool). cond x (after_timed f me o b (place_of s.log.entries b.id)) (s, [])) normal
    ∙ ap (after_timed f me o b) unplaced
    ∙ ap (λ (x : Bool). (cond x o (cond (is_full o) o (after_placing f me o b)), [])) not_early
    ∙ ap (λ (x : Bool). (cond x o (after_placing f me o b), [])) not_full
    ∙ ap (λ (x : Bool). (cond x early late, [])) above
    ∙ (λ i. (record (with_request s p b) { late = emptied i }, []))
