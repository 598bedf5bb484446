-- What a view starts with, in the machine's own words: the merged log of its reports, and view 0 with nothing.
use Rattle.std.proofs.Common.{◌≡◌, ℕ, ◌<◌, Bool, true, not, cond, List, [], ◌∷◌, Option, Some, None, refl, sym, ap, subst, ◌∙◌, inl, inr}
use Rattle.std.specs.Prelude.{◌↔◌}
use Rattle.std.proofs.lemmas.Bool.{and_parts, not-true}
use Rattle.nz_base.specs.Moments.{At}
use Rattle.nz_base.specs.declared.key.Entry.{Entry}
use Rattle.nz_merge.specs.Merged.{merged}
use Rattle.nz_machine.specs.declared.event.Record.{Record}
use Rattle.nz_machine.specs.rules.State.{Group}
use Rattle.nz_machine.specs.runs.World.{World}
use Rattle.nz_machine.specs.runs.Leading.{leader_at, is_led}
use Rattle.nz_machine.specs.runs.Begun.{begins, earlier_or, start}
use Rattle.nz_machine.proofs.runs.Moments.{at_world}
use Rattle.nz_laws_cv.specs.Members.{begun_reports}
use Rattle.nz_laws_cv.proofs.Beginnings.{turning_is}
use Rattle.nz_laws_cv.proofs.BegunLogs.{begun_log_is}
use Rattle.nz_laws_commit.specs.Starts.{IsMergedStart}
use Rattle.nz_laws_commit.proofs.Following.{start_began, not_begun}

-- the log with which a view began stays
start_stays : (g : Group) (v : ℕ) (S : List Entry) (J K : List Record) → At J K → start g v K ≡ Some S → start g v J ≡ Some S
unfolding start
start_stays g v S [] K at is = subst (λ (L : List Record). start g v L ≡ Some S) at is
start_stays g v S (r ∷ J) K (inl same) is = subst (λ (L : List Record). start g v L ≡ Some S) same is
start_stays g v S (r ∷ J) K (inr older) is =
    ap (λ (o : Option (List Entry)). earlier_or o (cond (begins g v (r ∷ J)) (Some (leader_at g v (r ∷ J)).log.entries) None)) (start_stays g v S J K older is)

pub zero_starts_empty : (g : Group) (J : List Record) → start g 0 J ≡ Some []
unfolding start
zero_starts_empty g [] = refl
zero_starts_empty g (r ∷ J) =
    ap (λ (o : Option (List Entry)). earlier_or o (cond (begins g 0 (r ∷ J)) (Some (leader_at g 0 (r ∷ J)).log.entries) None)) (zero_starts_empty g J)

-- the first begin is with the leader's log
starts_now : (g : Group) (v : ℕ) (r : Record) (K : List Record) → start g v K ≡ None → begins g v (r ∷ K) ≡ true
    → start g v (r ∷ K) ≡ Some (leader_at g v (r ∷ K)).log.entries
unfolding start
starts_now g v r K none begun =
    let log = (leader_at g v (r ∷ K)).log.entries in
    ap (λ (o : Option (List Entry)). earlier_or o (cond (begins g v (r ∷ K)) (Some log) None)) none
    ∙ ap (λ (b : Bool). earlier_or None (cond b (Some log) None)) begun

module _ (g : Group) (J : List Record) (w : World g J) (v : ℕ) (later : 0 < v) where
  -- the leader's log after a begin is the merged one
  merged_at : (r : Record) (K : List Record) → At J (r ∷ K) → begins g v (r ∷ K) ≡ true
      → (leader_at g v (r ∷ K)).log.entries ≡ merged g.f (begun_reports g v r K)
  merged_at r K at begun =
      let parts = and_parts (not (is_led g v K)) (is_led g v (r ∷ K)) begun in
      (begun_log_is g v r K (at_world g J (r ∷ K) w at).1 parts.1 (not-true (is_led g v K) parts.0)).entries

  began_merged : (S : List Entry) → start g v J ≡ Some S → IsMergedStart g v S J
  began_merged S is =
      let h = start_began g v S J later is in
      let i = turning_is g v h.moment later h.is in
      let at : At J (i.newest ∷ i.older) = subst (At J) i.is h.at in
      let begun : begins g v (i.newest ∷ i.older) ≡ true = subst (λ (x : List Record). begins g v x ≡ true) i.is h.is in
      let log = subst (λ (x : List Record). (leader_at g v x).log.entries ≡ S) i.is h.log in
      record { newest = i.newest; older = i.older; at = at; begins = begun; log = sym log ∙ merged_at i.newest i.older at begun }

  merged_starts : (S : List Entry) → IsMergedStart g v S J → start g v J ≡ Some S
  merged_starts S m =
      let none = not_begun g J w v m.newest m.older m.at (record { at = m.at; later = later; is = m.begins }) in
      let now = starts_now g v m.newest m.older none m.begins in
      start_stays g v S J (m.newest ∷ m.older) m.at (now ∙ ap Some (merged_at m.newest m.older m.at m.begins ∙ sym m.log))

  pub starts_merged : (S : List Entry) → (start g v J ≡ Some S) ↔ IsMergedStart g v S J
  starts_merged S = (began_merged S, merged_starts S)
