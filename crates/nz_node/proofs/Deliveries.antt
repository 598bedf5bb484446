-- Frames as parcels.
use Rattle.std.proofs.Common.{◌≡◌, ℕ, List, Option, sym, ap, ◌∙◌}
use Rattle.nz_base.specs.Actor.{actor_at}
use Rattle.nz_base.specs.declared.actor.Actor.{Actor}
use Rattle.nz_frame.specs.Grammar.{IsFrame}
use Rattle.nz_frame.specs.Refusal.{sender, receiver}
use Rattle.nz_frame.proofs.Readings.{read_of}
use Rattle.nz_node.specs.Nodes.{delivery}

pub delivered : (frame : List ℕ) (kind from to : ℕ) (body : List ℕ) (f t : Option Actor) → IsFrame frame kind from to body
    → f ≡ actor_at from → t ≡ actor_at to → delivery f t frame ≡ delivery (actor_at (sender frame)) (actor_at (receiver frame)) frame
delivered frame kind from to body f t h ef et =
    let r = read_of frame kind from to body h in
    let senders : f ≡ actor_at (sender frame) = ef ∙ ap actor_at (sym r.from_is) in
    let receivers : t ≡ actor_at (receiver frame) = et ∙ ap actor_at (sym r.to_is) in
    λ i. delivery (senders i) (receivers i) frame
