-- What one message more changes in what was heard, known and sent.
use Rattle.std.proofs.Common.{◌≡◌, ℕ, false, List, [], ◌∷◌, ◌++◌, Option}
use Rattle.std.proofs.Common.{sym, ap, ◌∙◌, inl, inr}
use Rattle.nz_base.specs.declared.actor.Actor.TheVariants.{Replica, Client}
use Rattle.nz_base.specs.declared.key.Id.{Id}
use Rattle.nz_base.specs.Key.{id_eq}
use Rattle.nz_base.proofs.Names.{id_eq_self}
use Rattle.nz_msg.specs.declared.message.Path.TheVariants as paths
use Rattle.nz_msg.specs.declared.message.RequestBody.{RequestBody}
use Rattle.nz_msg.specs.declared.message.FastReplyBody.{FastReplyBody}
use Rattle.nz_msg.specs.declared.message.SlowReplyBody.{SlowReplyBody}
use Rattle.nz_msg.specs.declared.message.Message.TheVariants as messages
use Rattle.nz_machine.specs.declared.reply.Reply.{Reply}
use Rattle.nz_machine.specs.rules.State.{Standing, Out}
use Rattle.nz_machine.specs.runs.Events.{id_at}
use Rattle.nz_machine.specs.rules.Proxies.{answer_to_client}
use Rattle.nz_machine.proofs.runs.Runs.{has_left, has_split}
use Rattle.nz_quiet.specs.Words.{Word}
use Rattle.nz_quiet.specs.ProxyTicks.{Said, IsAskedIn, IsRepliedIn, AreNoted, Stands, Stays, Opens, Waits, Decides}

-- ---- equal messages

pub same_request : (c d : ℕ) (b k : RequestBody) → ◌≡◌ {A = Word} (Client c, messages.Request b) (Client d, messages.Request k) → (c ≡ d) × (b ≡ k)
same_request c d b k same =
    let sender : Client c ≡ Client d = ap (λ (w : Word). w.0) same in
    let message : messages.Request b ≡ messages.Request k = ap (λ (w : Word). w.1) same in
    (cc, cc)

pub same_reply : (r q : ℕ) (b k : FastReplyBody) → ◌≡◌ {A = Word} (Replica r, messages.FastReply b) (Replica q, messages.FastReply k) → (r ≡ q) × (b ≡ k)
same_reply r q b k same =
    let sender : Replica r ≡ Replica q = ap (λ (w : Word). w.0) same in
    let message : messages.FastReply b ≡ messages.FastReply k = ap (λ (w : Word). w.1) same in
    (cc, cc)

-- ---- what was heard

asked_more : (ws vs : List Word) (id : Id) → IsAskedIn ws id → IsAskedIn (ws ++ vs) id
asked_more ws vs id h = record { body = h.body; among = has_left ws vs (Client id.client, messages.Request h.body) h.among; of_it = h.of_it }

pub replied_more : (ws vs : List Word) (id : Id) → IsRepliedIn ws id → IsRepliedIn (ws ++ vs) id
replied_more ws vs id h =
    record { replica = h.replica; body = h.body; among = has_left ws vs (Replica h.replica, messages.FastReply h.body) h.among; of_it = h.of_it }

-- the message is no request and no fast reply of this id
pub record IsSilentOn (w : Word) (id : Id) : Type 0 where
  pub not_asked : ¬ IsAskedIn (w ∷ []) id
  pub not_replied : ¬ IsRepliedIn (w ∷ []) id

not_asked_more : (ws : List Word) (w : Word) (id : Id) → ¬ IsAskedIn ws id → ¬ IsAskedIn (w ∷ []) id → ¬ IsAskedIn (ws ++ w ∷ []) id
not_asked_more ws w id before now h = elim (has_split ws (w ∷ []) (Client id.client, messages.Request h.body) h.among) [
  | inl a ↦ before (record { body = h.body; among = a; of_it = h.of_it })
  | inr b ↦ now (record { body = h.body; among = b; of_it = h.of_it })
]

not_replied_more : (ws : List Word) (w : Word) (id : Id) → ¬ IsRepliedIn ws id → ¬ IsRepliedIn (w ∷ []) id → ¬ IsRepliedIn (ws ++ w ∷ []) id
not_replied_more ws w id before now h = elim (has_split ws (w ∷ []) (Replica h.replica, messages.FastReply h.body) h.among) [
  | inl a ↦ before (record { replica = h.replica; body = h.body; among = a; of_it = h.of_it })
  | inr b ↦ now (record { replica = h.replica; body = h.body; among = b; of_it = h.of_it })
]

noted_more : (f : ℕ) (said : Said) (ws : List Word) (w : Word) (id : Id) (rs : List Reply) → ¬ IsRepliedIn (w ∷ []) id → AreNoted f said ws id rs
    → AreNoted f said (ws ++ w ∷ []) id rs
noted_more f said ws w id rs silent h = record {
  good = h.good;
  undecided = h.undecided;
  noted = λ r b has is. elim (has_split ws (w ∷ []) (Replica r, messages.FastReply b) has) [
    | inl a ↦ h.noted r b a is
    | inr now ↦ absurd (silent (record { replica = r; body = b; among = now; of_it = is }))
  ];
}

-- one message more, of another id
pub stands_more : (f : ℕ) (said : Said) (ws : List Word) (w : Word) (outs more : List Out) (id : Id) (before after : Option Standing) → IsSilentOn w id
    → Stands f said ws outs id before after → Stands f said (ws ++ w ∷ []) (outs ++ more) id before after
stands_more f said ws w outs more id before after silent (Stays is not_asked not_replied) =
    Stays is (not_asked_more ws w id not_asked silent.not_asked) (not_replied_more ws w id not_replied silent.not_replied)
stands_more f said ws w outs more id before after silent (Opens none is asked) = Opens none is (asked_more ws (w ∷ []) id asked)
stands_more f said ws w outs more id before after silent (Waits rs is now replied h) =
    Waits rs is now (replied_more ws (w ∷ []) id replied) (noted_more f said ws w id rs silent.not_replied h)
stands_more f said ws w outs more id before after silent (Decides is now replied sends_answer) =
    Decides is now (replied_more ws (w ∷ []) id replied) (has_left outs more (answer_to_client id (said.answer id) paths.Fast) sends_answer)

-- ---- on which ids a message is silent

pub request_silent : (c : ℕ) (b : RequestBody) (x : Id) → id_eq x (id_at c b.num) ≡ false → IsSilentOn (Client c, messages.Request b) x
request_silent c b x other = record {
  not_asked = λ h. elim h.among [
    | inl same ↦
        let parts = same_request c x.client b h.body same in
        let num : b.num ≡ x.num = ap (λ (k : RequestBody). k.num) parts.1 ∙ h.of_it in
        let is : x ≡ id_at c b.num = λ i. id_at (sym parts.0 i) (sym num i) in
        let no : id_eq x x ≡ false = ap (id_eq x) is ∙ other in
        let yes = id_eq_self x in
        cc
    | inr never ↦ never
  ];
  not_replied = λ h. elim h.among [
    | inl same ↦ (let kind : Client c ≡ Replica h.replica = ap (λ (w : Word). w.0) same in cc)
    | inr never ↦ never
  ];
}

pub reply_silent : (r : ℕ) (b : FastReplyBody) (x : Id) → id_eq x b.id ≡ false → IsSilentOn (Replica r, messages.FastReply b) x
reply_silent r b x other = record {
  not_asked = λ h. elim h.among [
    | inl same ↦ (let kind : Replica r ≡ Client x.client = ap (λ (w : Word). w.0) same in cc)
    | inr never ↦ never
  ];
  not_replied = λ h. elim h.among [
    | inl same ↦
        let parts = same_reply r h.replica b h.body same in
        let is : b.id ≡ x = ap (λ (k : FastReplyBody). k.id) parts.1 ∙ h.of_it in
        let no : id_eq x x ≡ false = ap (id_eq x) (sym is) ∙ other in
        let yes = id_eq_self x in
        cc
    | inr never ↦ never
  ];
}

pub slow_silent : (r : ℕ) (b : SlowReplyBody) (x : Id) → IsSilentOn (Replica r, messages.SlowReply b) x
slow_silent r b x = record {
  not_asked = λ h. elim h.among [
    | inl same ↦ (let kind : Replica r ≡ Client x.client = ap (λ (w : Word). w.0) same in cc)
    | inr never ↦ never
  ];
  not_replied = λ h. elim h.among [
    | inl same ↦ (let kind : messages.SlowReply b ≡ messages.FastReply h.body = ap (λ (w : Word). w.1) same in cc)
    | inr never ↦ never
  ];
}
