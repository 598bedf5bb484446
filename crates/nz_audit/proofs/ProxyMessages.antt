-- What a message makes of what a proxy knows of a request, by the proxy's rules.
use Rattle.std.proofs.Common.{◌≡◌, ℕ, true, false, cond, List, [], Option, Some, None, refl, sym, ap, subst, ◌∙◌, inl, inr}
use Rattle.std.proofs.lemmas.Bool.{cases_Bool}
use Rattle.nz_base.specs.declared.key.Id.{Id}
use Rattle.nz_base.specs.Key.{id_eq}
use Rattle.nz_base.proofs.Names.{same_id, id_turn_away}
use Rattle.nz_store.specs.declared.command.Answer.{Answer}
use Rattle.nz_window.specs.Samples.{with_sample}
use Rattle.nz_msg.specs.declared.message.RequestBody.{RequestBody}
use Rattle.nz_machine.specs.declared.reply.Reply.{Reply}
use Rattle.nz_machine.specs.rules.State.{ProxyData, Standing, Open, Decided}
use Rattle.nz_machine.specs.rules.Quorums.{Chosen, decision, answer_in, with_note}
use Rattle.nz_machine.specs.rules.Proxies.{standing_of, after_stamp, stamp_rule, after_chosen_answer, after_choice, after_replica_reply, reply_rule}
use Rattle.nz_machine.proofs.lists.Lookups.{lookup_inserted, lookup_other}
use Rattle.nz_audit.proofs.ProxyMemories.{standing_opened, settled_with, answer_chosen, settled, standing_noted}

-- a change at one request, seen at any
at_each : (id x : Id) (s t : ProxyData) (f : Option Standing → Option Standing)
    → standing_of t id ≡ f (standing_of s id) → (id_eq x id ≡ false → standing_of t x ≡ standing_of s x)
    → standing_of t x ≡ cond (id_eq id x) (f (standing_of s x)) (standing_of s x)
at_each id x s t f here away =
    elim (cases_Bool (id_eq id x)) [
      | inl same ↦ rw same (subst (λ (y : Id). standing_of t y ≡ f (standing_of s y)) (same_id id x same) here)
      | inr other ↦ rw other (away (id_turn_away id x other))
    ]

-- ---- a request of a client

stamped_here : (f : ℕ) (s : ProxyData) (id : Id) (command : List ℕ) (o : Option Standing) → standing_of s id ≡ o
    → standing_of (after_stamp f s id command o).0 id ≡ standing_opened o
stamped_here f s id command None e = lookup_inserted s.standings id (Open [])
stamped_here f s id command (Some (Open replies)) e = e
stamped_here f s id command (Some (Decided a p)) e = e

stamped_away : (f : ℕ) (s : ProxyData) (id x : Id) (command : List ℕ) (o : Option Standing) → id_eq x id ≡ false
    → standing_of (after_stamp f s id command o).0 x ≡ standing_of s x
stamped_away f s id x command None h = lookup_other s.standings x id (Open []) h
stamped_away f s id x command (Some (Open replies)) h = refl
stamped_away f s id x command (Some (Decided a p)) h = refl

pub stamp_opens : (f : ℕ) (s : ProxyData) (c : ℕ) (b : RequestBody) (x : Id) → let id : Id = record { client = c; num = b.num } in
    standing_of (stamp_rule f s c b).0 x ≡ cond (id_eq id x) (standing_opened (standing_of s x)) (standing_of s x)
unfolding stamp_rule
stamp_opens f s c b x =
    let id : Id = record { client = c; num = b.num } in
    at_each id x s (after_stamp f s id b.command (standing_of s id)).0 standing_opened
    (stamped_here f s id b.command (standing_of s id) refl) (stamped_away f s id x b.command (standing_of s id))

-- ---- a reply

answered_here : (s : ProxyData) (id : Id) (replies : List Reply) (chosen : Chosen) (o : Option Answer)
    → standing_of (after_chosen_answer s id replies chosen.path o).0 id ≡ Some (settled_with replies (Some chosen) o)
answered_here s id replies chosen None = lookup_inserted s.standings id (Open replies)
answered_here s id replies chosen (Some a) = lookup_inserted s.standings id (Decided a chosen.path)

decided_here : (s : ProxyData) (id : Id) (replies : List Reply) (d : Option Chosen)
    → standing_of (after_choice s id replies d).0 id ≡ Some (settled_with replies d (answer_chosen d))
decided_here s id replies None = lookup_inserted s.standings id (Open replies)
decided_here s id replies (Some chosen) = answered_here s id replies chosen (answer_in chosen.reply)

noted_here : (f : ℕ) (s : ProxyData) (id : Id) (reply : Reply) (o : Option Standing) → standing_of s id ≡ o
    → standing_of (after_replica_reply f s id reply o).0 id ≡ standing_noted f reply o
noted_here f s id reply None e = e
noted_here f s id reply (Some (Decided a p)) e = e
noted_here f s id reply (Some (Open replies)) e = decided_here s id (with_note replies reply) (decision f (with_note replies reply))

answered_away : (s : ProxyData) (id x : Id) (replies : List Reply) (chosen : Chosen) (o : Option Answer)
    → id_eq x id ≡ false → standing_of (after_chosen_answer s id replies chosen.path o).0 x ≡ standing_of s x
answered_away s id x replies chosen None h = lookup_other s.standings x id (Open replies) h
answered_away s id x replies chosen (Some a) h = lookup_other s.standings x id (Decided a chosen.path) h

decided_away : (s : ProxyData) (id x : Id) (replies : List Reply) (d : Option Chosen) → id_eq x id ≡ false
    → standing_of (after_choice s id replies d).0 x ≡ standing_of s x
decided_away s id x replies None h = lookup_other s.standings x id (Open replies) h
decided_away s id x replies (Some chosen) h = answered_away s id x replies chosen (answer_in chosen.reply) h

noted_away : (f : ℕ) (s : ProxyData) (id x : Id) (reply : Reply) (o : Option Standing) → id_eq x id ≡ false
    → standing_of (after_replica_reply f s id reply o).0 x ≡ standing_of s x
noted_away f s id x reply None h = refl
noted_away f s id x reply (Some (Decided a p)) h = refl
noted_away f s id x reply (Some (Open replies)) h = decided_away s id x (with_note replies reply) (decision f (with_note replies reply)) h

pub reply_notes : (f : ℕ) (s : ProxyData) (replica : ℕ) (id : Id) (delay : ℕ) (reply : Reply) (x : Id)
    → standing_of (reply_rule f s replica id delay reply).0 x ≡ cond (id_eq id x) (standing_noted f reply (standing_of s x)) (standing_of s x)
unfolding reply_rule
reply_notes f s replica id delay reply x =
    let now : ProxyData = record s { samples = with_sample s.samples replica delay } in
    at_each id x s (after_replica_reply f now id reply (standing_of s id)).0 (standing_noted f reply)
    (noted_here f now id reply (standing_of s id) refl) (noted_away f now id x reply (standing_of s id))

-- ---- a proxy that decides answers its client

answered_quietly : (s : ProxyData) (id : Id) (replies : List Reply) (chosen : Chosen) (o : Option Answer)
    → (after_chosen_answer s id replies chosen.path o).1 ≡ [] → settled_with replies (Some chosen) o ≡ Open replies
answered_quietly s id replies chosen None h = refl
answered_quietly s id replies chosen (Some a) h = absurd cc

decided_quietly : (s : ProxyData) (id : Id) (replies : List Reply) (d : Option Chosen)
    → (after_choice s id replies d).1 ≡ [] → settled_with replies d (answer_chosen d) ≡ Open replies
decided_quietly s id replies None h = refl
decided_quietly s id replies (Some chosen) h = answered_quietly s id replies chosen (answer_in chosen.reply) h

-- a reply after which nothing is sent leaves the request open
pub reply_silent : (f : ℕ) (s : ProxyData) (replica : ℕ) (id : Id) (delay : ℕ) (reply : Reply) (x : Id) (replies : List Reply)
    → id_eq id x ≡ true → (reply_rule f s replica id delay reply).1 ≡ [] → standing_of s x ≡ Some (Open replies)
    → settled f (with_note replies reply) ≡ Open (with_note replies reply)
unfolding reply_rule
reply_silent f s replica id delay reply x replies same h e =
    let now : ProxyData = record s { samples = with_sample s.samples replica delay } in
    let known : standing_of s id ≡ Some (Open replies) = ap (standing_of s) (same_id id x same) ∙ e in
    decided_quietly now id (with_note replies reply) (decision f (with_note replies reply))
    (ap (λ (o : Option Standing). (after_replica_reply f now id reply o).1) (sym known) ∙ h)

-- ---- no message takes a proxy down

stamped_up : (f : ℕ) (s : ProxyData) (id : Id) (command : List ℕ) (o : Option Standing) → (after_stamp f s id command o).0.is_down ≡ s.is_down
stamped_up f s id command None = refl
stamped_up f s id command (Some (Open replies)) = refl
stamped_up f s id command (Some (Decided a p)) = refl

pub stamp_up : (f : ℕ) (s : ProxyData) (c : ℕ) (b : RequestBody) → (stamp_rule f s c b).0.is_down ≡ s.is_down
unfolding stamp_rule
stamp_up f s c b = let id : Id = record { client = c; num = b.num } in stamped_up f s id b.command (standing_of s id)

answered_up : (s : ProxyData) (id : Id) (replies : List Reply) (chosen : Chosen) (o : Option Answer)
    → (after_chosen_answer s id replies chosen.path o).0.is_down ≡ s.is_down
answered_up s id replies chosen None = refl
answered_up s id replies chosen (Some a) = refl

decided_up : (s : ProxyData) (id : Id) (replies : List Reply) (d : Option Chosen) → (after_choice s id replies d).0.is_down ≡ s.is_down
decided_up s id replies None = refl
decided_up s id replies (Some chosen) = answered_up s id replies chosen (answer_in chosen.reply)

noted_up : (f : ℕ) (s : ProxyData) (id : Id) (reply : Reply) (o : Option Standing) → (after_replica_reply f s id reply o).0.is_down ≡ s.is_down
noted_up f s id reply None = refl
noted_up f s id reply (Some (Decided a p)) = refl
noted_up f s id reply (Some (Open replies)) = decided_up s id (with_note replies reply) (decision f (with_note replies reply))

pub reply_up : (f : ℕ) (s : ProxyData) (replica : ℕ) (id : Id) (delay : ℕ) (reply : Reply) → (reply_rule f s replica id delay reply).0.is_down ≡ s.is_down
unfolding reply_rule
reply_up f s replica id delay reply = noted_up f (record s { samples = with_sample s.samples replica delay }) id reply (standing_of s id)
