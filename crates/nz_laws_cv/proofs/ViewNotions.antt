-- The notions of knowledge and views, read off the machine, for one run J.
use Rattle.std.proofs.Common.{◌≡◌, ℕ, ◌<◌, true, List, Some}
use Rattle.std.specs.Prelude.{slice_index}
use Rattle.nz_base.specs.Cluster.{leader_of}
use Rattle.nz_machine.specs.declared.event.Record.{Record}
use Rattle.nz_machine.specs.rules.State.{Group}
use Rattle.nz_machine.specs.declared.data.ToldView.{ToldView}
use Rattle.nz_machine.specs.rules.Replicas.{is_normal, is_up}
use Rattle.nz_machine.specs.runs.World.{Has}
use Rattle.nz_machine.specs.runs.Incarnations.{replica_at, incarnation, completes, views_used, tell_source}
use Rattle.nz_machine.specs.runs.Begun.{begins, IsMemberOf}
use Rattle.nz_base.specs.Moments.{At}
use Rattle.nz_laws_cv.specs.Notions.{Notions}

pub record Completes (g : Group) (J : List Record) (m : ℕ) (C : List Record) : Type 0 where
  pub at : At J C
  pub is : completes g m C ≡ true

pub record Uses (g : Group) (m : ℕ) (C : List Record) (y : ℕ) (T : List Record) : Type 0 where
  pub told : ToldView
  pub used : Has (views_used g m C) told
  pub sender : told.sender ≡ y
  pub from : tell_source g m C told ≡ Some T

-- View 0 begins before all, and no law speaks of that begin.
pub record Begins (g : Group) (J : List Record) (w : ℕ) (B : List Record) : Type 0 where
  pub at : At J B
  pub later : 0 < w
  pub is : begins g w B ≡ true

abbrev pub notions : Group → List Record → Notions Record
notions g J = record {
  f = g.f;
  leader = leader_of g.f;
  inc = incarnation g;
  place = λ x K k. slice_index (replica_at g x K).vector k;
  view = λ x K. (replica_at g x K).view;
  last = λ x K. (replica_at g x K).last;
  IsUp = λ x K. is_up (replica_at g x K).status ≡ true;
  IsNormal = λ x K. is_normal (replica_at g x K).status ≡ true;
  Completes = Completes g J;
  Uses = Uses g;
  Begins = Begins g J;
  Reports = IsMemberOf g;
}
