-- A journal's first records are a run too.
use Rattle.std.proofs.Common.{◌≡◌, ℕ, ◌+◌, ◌<◌, List, [], ◌∷◌, ◌++◌, length, take, drop, reverse, get_or, sym, ap, subst, ◌∙◌}
use Rattle.std.proofs.lemmas.List.{reverse-append, take-append-drop, take_more}
use Rattle.nz_machine.specs.declared.event.Record.{Record}
use Rattle.nz_machine.specs.rules.State.{Group}
use Rattle.nz_machine.specs.runs.World.{World}

pub one_record : (rs : List Record) (i : ℕ) (r : Record) → i < length rs → r ≡ get_or rs i r → reverse (take (i + 1) rs) ≡ r ∷ reverse (take i rs)
one_record rs i r lt is = ap reverse (take_more rs i r lt ∙ ap (λ (x : Record). take i rs ++ x ∷ []) (sym is)) ∙ reverse-append (take i rs) (r ∷ [])

world_before : (g : Group) (more J : List Record) → World g (more ++ J) → World g J
world_before g [] J w = w
world_before g (r ∷ more) J w = world_before g more J w.1

world_of_prefix : (g : Group) (rs : List Record) (i : ℕ) → World g (reverse rs) → World g (reverse (take i rs))
world_of_prefix g rs i w =
    world_before g (reverse (drop i rs)) (reverse (take i rs))
    (subst (World g) (ap reverse (sym (take-append-drop i rs)) ∙ reverse-append (take i rs) (drop i rs)) w)

-- the records up to and with the one at a place
pub world_with : (g : Group) (rs : List Record) (i : ℕ) (r : Record) → World g (reverse rs) → i < length rs
    → r ≡ get_or rs i r → World g (r ∷ reverse (take i rs))
world_with g rs i r w lt is = subst (World g) (one_record rs i r lt is) (world_of_prefix g rs (i + 1) w)
