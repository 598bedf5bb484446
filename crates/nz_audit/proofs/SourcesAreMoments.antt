-- The source of an accepted answer is a moment of the run, at a member of the cluster.
use Rattle.std.proofs.Common.{◌≡◌, ℕ, Bool, true, false, cond, List, [], ◌∷◌, ◌++◌, Option, Some, None, refl, sym, ap, subst, inl, inr, ◌⊎◌}
use Rattle.std.specs.List.{list_any}
use Rattle.std.specs.Option.{option_map, option_and_then}
use Rattle.std.proofs.lemmas.Option.{none-some, same_Some}
use Rattle.nz_base.specs.declared.actor.Actor.{Actor}
use Rattle.nz_base.specs.declared.actor.Actor.TheVariants.{Replica, Proxy, Client}
use Rattle.nz_base.specs.declared.key.Id.{Id}
use Rattle.nz_machine.specs.declared.event.Parcel.{Parcel}
use Rattle.nz_machine.specs.declared.event.Record.{Record}
use Rattle.nz_machine.specs.declared.reply.Reply.{Reply}
use Rattle.nz_machine.specs.rules.State.{Group}
use Rattle.nz_machine.specs.rules.Quorums.{reply_eq}
use Rattle.nz_machine.specs.runs.World.{World, IsMember}
use Rattle.nz_machine.specs.runs.History.{ReplySource, older_or, source, standing_after, is_decided, decision_moment, replies_of, noting_moment}
use Rattle.nz_machine.specs.runs.History.{parcel_delivered, source_of, source_of_reply, source_at_decision, deciding_reply, source_of_sender}
use Rattle.nz_machine.specs.runs.History.{accepted_source}
use Rattle.nz_machine.proofs.runs.Runs.{sent_by}
use Rattle.nz_base.specs.Moments.{At}
use Rattle.nz_base.proofs.Moments.{at_then}
use Rattle.nz_machine.proofs.runs.Moments.{at_world}
use Rattle.nz_machine.proofs.runs.Sources.{source_is}

-- ---- moments

-- the records after a moment
pub at_later : (J K : List Record) → At J K → (later : List Record) × (J ≡ later ++ K)
at_later [] K h = ([], sym h)
at_later (r ∷ J) K (inl h) = ([], sym h)
at_later (r ∷ J) K (inr h) = let t = at_later J K h in (r ∷ t.0, ap (λ (x : List Record). r ∷ x) t.1)

-- ---- steps of the definition

and_then_some : {X Y : Type 0} (f : X → Option Y) (o : Option X) (y : Y) → option_and_then f o ≡ Some y → (x : X) × ((o ≡ Some x) × (f x ≡ Some y))
and_then_some f None y e = absurd (none-some y e)
and_then_some f (Some x) y e = (x, (refl, e))

map_some : {X Y : Type 0} (f : X → Y) (o : Option X) (y : Y) → option_map f o ≡ Some y → (x : X) × ((o ≡ Some x) × (f x ≡ y))
map_some f None y e = absurd (none-some y e)
map_some f (Some x) y e = (x, (refl, same_Some (f x) y e))

decided_by : (b : Bool) (o : Option (List Record)) (now K : List Record) → cond b (older_or o now) None ≡ Some K → (o ≡ Some K) ⊎ (now ≡ K)
decided_by true None now K e = inr (same_Some now K e)
decided_by true (Some L) now K e = inl e
decided_by false o now K e = absurd (none-some K e)

decision_at : (g : Group) (q : ℕ) (id : Id) (J K : List Record) → decision_moment g q id J ≡ Some K → At J K
decision_at g q id [] K e = absurd (none-some K e)
decision_at g q id (r ∷ J) K e =
    elim (decided_by (is_decided (standing_after g q id (r ∷ J))) (decision_moment g q id J) (r ∷ J) K e) [
      | inl old ↦ inr (decision_at g q id J K old)
      | inr now ↦ inl (sym now)
    ]

noted_at : (b : Bool) (o : Option (List Record)) (now K : List Record) → cond b o (Some now) ≡ Some K → (o ≡ Some K) ⊎ (now ≡ K)
noted_at true o now K e = inl e
noted_at false o now K e = inr (same_Some now K e)

noting_at : (g : Group) (q : ℕ) (id : Id) (reply : Reply) (J K : List Record) → noting_moment g q id reply J ≡ Some K → At J K
noting_at g q id reply [] K e = absurd (none-some K e)
noting_at g q id reply (r ∷ J) K e =
    elim (noted_at (list_any (reply_eq reply) (replies_of (standing_after g q id J))) (noting_moment g q id reply J)
    (r ∷ J) K e) [ inl old ↦ inr (noting_at g q id reply J K old) | inr now ↦ inl (sym now) ]

-- a moment of the run whose last record is the sender's
pub record IsReached (g : Group) (J : List Record) (at : ReplySource) : Type 0 where
  pub moment : At J at.run
  pub member : IsMember g at.sender

first_reached : (g : Group) (M : List Record) (p : Parcel) (at : ReplySource) → World g M → source_of M p ≡ Some at → IsReached g M at
first_reached g M p at w e =
    let k = map_some (λ (K : List Record). record { sender = p.from; run = K }) (source p M) at e in
    let s = source_is p M k.0 k.1.0 in
    let known = at_world g M (s.newest ∷ s.older) w s.at in
    let by = sent_by g s.newest s.older p known s.sends in
    let from : p.from ≡ s.newest.actor = ap (λ (x : Parcel). x.from) by.is in
    subst (IsReached g M) k.1.1 (record { moment = subst (At M) (sym s.is) s.at; member = subst (IsMember g) (sym from) known.0.member })

reply_reached : (g : Group) (q : ℕ) (id : Id) (K : List Record) (reply : Reply) (at : ReplySource) → World g K
    → source_of_reply g q id K reply ≡ Some at → IsReached g K at
reply_reached g q id K reply at w e =
    let m = and_then_some (λ M. option_and_then (source_of M) (parcel_delivered M)) (noting_moment g q id reply K) at e in
    let p = and_then_some (source_of m.0) (parcel_delivered m.0) at m.1.1 in
    let moment = noting_at g q id reply K m.0 m.1.0 in
    let h = first_reached g m.0 p.0 at (at_world g K m.0 w moment) p.1.1 in
    record { moment = at_then K m.0 at.run moment h.moment; member = h.member }

sender_reached : (g : Group) (id : Id) (a : Actor) (K : List Record) (at : ReplySource) → World g K → source_of_sender g id a K ≡ Some at → IsReached g K at
sender_reached g id (Proxy q) K at w e =
    let m = and_then_some (source_at_decision g q id) (decision_moment g q id K) at e in
    let moment = decision_at g q id K m.0 m.1.0 in
    let by = and_then_some (source_of_reply g q id m.0) (deciding_reply g q id m.0) at m.1.1 in
    let h = reply_reached g q id m.0 by.0 at (at_world g K m.0 w moment) by.1.1 in
    record { moment = at_then K m.0 at.run moment h.moment; member = h.member }
sender_reached g id (Replica m) K at w e = absurd (none-some at e)
sender_reached g id (Client c) K at w e = absurd (none-some at e)

pub accepted_reached : (g : Group) (id : Id) (p : Parcel) (J : List Record) (at : ReplySource) → World g J
    → accepted_source g id p J ≡ Some at → IsReached g J at
accepted_reached g id p J at w e =
    let m = and_then_some (source_of_sender g id p.from) (source p J) at e in
    let s = source_is p J m.0 m.1.0 in
    let moment : At J m.0 = subst (At J) (sym s.is) s.at in
    let h = sender_reached g id p.from m.0 at (at_world g J m.0 w moment) m.1.1 in
    record { moment = at_then J m.0 at.run moment h.moment; member = h.member }
