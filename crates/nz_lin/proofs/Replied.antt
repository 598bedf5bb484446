-- Each list that a reply is over is among those that the parcels say.
use Rattle.std.proofs.Common.{List, [], ◌∷◌, sym, ap, subst, inl, inr}
use Rattle.std.specs.List.{flat_map}
use Rattle.nz_base.specs.Actor.{HasAddress}
use Rattle.nz_digest.specs.Digests.{EntryKey}
use Rattle.nz_msg.specs.declared.message.Message.TheVariants.{FastReply}
use Rattle.nz_msg.specs.Envelope.{decode_of}
use Rattle.nz_msg.proofs.Envelopes.{decode-encode}
use Rattle.nz_machine.specs.declared.event.Parcel.{Parcel}
use Rattle.nz_machine.specs.declared.event.Record.{Record}
use Rattle.nz_machine.specs.rules.State.{Group}
use Rattle.nz_machine.specs.rules.Step.{parcel, event_step}
use Rattle.nz_machine.specs.runs.World.{state_after, Has, World}
use Rattle.nz_machine.specs.runs.History.{log_at}
use Rattle.nz_machine.specs.runs.OneHistory.{RepliesOver, HasReplyOver, NoCollision}
use Rattle.nz_machine.proofs.runs.Runs.{FitsOut, sent_by, sends_have, all_has, has_left, has_right}
use Rattle.nz_machine.proofs.runs.FitRuns.{Fitted, FittedState, fits_keep}
use Rattle.nz_lin.specs.Replied.{list_read, replied_lists, HaveOwnDigests}

has_flat : {X Y : Type 0} (f : X → List Y) (xs : List X) (x : X) (y : Y) → Has xs x → Has (f x) y → Has (flat_map f xs) y
has_flat f [] x y h k = absurd h
has_flat {X} {Y} f (z ∷ xs) x y (inl e) k = has_left (f z) (flat_map f xs) y (subst (λ (u : X). Has (f u) y) (sym e) k)
has_flat f (z ∷ xs) x y (inr h) k = has_right (f z) (flat_map f xs) y (has_flat f xs x y h k)

reply_listed : (g : Group) (r : Record) (J : List Record) (keys : List EntryKey) → World g (r ∷ J) → RepliesOver g r J keys
    → Has (flat_map (λ p. list_read (log_at g r.actor (r ∷ J)) (decode_of p.frame)) r.sends) keys
reply_listed g r J keys w h =
    let p = parcel r.actor (h.to, FastReply h.body) in
    let log = log_at g r.actor (r ∷ J) in
    let b = sent_by g r J p w h.sent in
    let outs = (event_step g r.actor (state_after g r.actor J) r.event).1 in
    let fit : FitsOut r.actor b.out = all_has (FitsOut r.actor) outs b.out (sends_have g (Fitted g) (FittedState g) (fits_keep g) J r w) b.among in
    let receiver : HasAddress h.to = subst HasAddress (sym (ap (λ (q : Parcel). q.to) b.is)) fit.receiver in
    let read = decode-encode r.actor h.to (FastReply h.body) fit.sender receiver h.fit in
    let own : Has (list_read log (decode_of p.frame)) keys = subst (λ o. Has (list_read log o) keys) (sym read) (inl (sym h.over)) in
    has_flat (λ (q : Parcel). list_read log (decode_of q.frame)) r.sends p keys h.sent own

pub replies_listed : (g : Group) (J : List Record) (keys : List EntryKey) → World g J → HasReplyOver g J keys → Has (replied_lists g J) keys
replies_listed g [] keys w h = absurd h
replies_listed g (r ∷ J) keys w (inl h) =
    has_left (flat_map (λ p. list_read (log_at g r.actor (r ∷ J)) (decode_of p.frame)) r.sends) (replied_lists g J) keys (reply_listed g r J keys w h)
replies_listed g (r ∷ J) keys w (inr h) =
    has_right (flat_map (λ p. list_read (log_at g r.actor (r ∷ J)) (decode_of p.frame)) r.sends) (replied_lists g J) keys (replies_listed g J keys w.1 h)

pub no_collision_listed : (g : Group) (J : List Record) → World g J → HaveOwnDigests (replied_lists g J) → NoCollision g J
no_collision_listed g J w apart keys others h k same = apart keys others (replies_listed g J keys w h) (replies_listed g J others w k) same
