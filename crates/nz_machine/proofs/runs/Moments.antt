-- What holds at the moments of a run of the world.
use Rattle.std.proofs.Common.{List, [], ◌∷◌, sym, subst, inl, inr}
use Rattle.nz_base.specs.Moments.{At}
use Rattle.nz_machine.specs.declared.event.Record.{Record}
use Rattle.nz_machine.specs.rules.State.{Group}
use Rattle.nz_machine.specs.runs.World.{World}

pub at_world : (g : Group) (J K : List Record) → World g J → At J K → World g K
at_world g [] K w at = subst (World g) (sym at) w
at_world g (r ∷ J) K w (inl same) = subst (World g) (sym same) w
at_world g (r ∷ J) K w (inr older) = at_world g J K w.1 older

-- what one record keeps holds between a moment and any later one
pub between : (g : Group) (P : List Record → List Record → Type 0) → ((K : List Record) → P K K)
    → ((J K : List Record) (r : Record) → World g (r ∷ J) → P K J → P K (r ∷ J))
    → (J K : List Record) → World g J → At J K → P K J
between g P here more [] K w at = subst (λ (x : List Record). P x []) (sym at) (here [])
between g P here more (r ∷ J) K w (inl same) = subst (λ (x : List Record). P x (r ∷ J)) (sym same) (here (r ∷ J))
between g P here more (r ∷ J) K w (inr older) = more J K r w (between g P here more J K w.1 older)
