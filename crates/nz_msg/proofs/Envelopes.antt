-- A frame is decoded exactly as the message that it spells.
use Rattle.std.proofs.Common.{◌≡◌, ℕ, ◌-◌, ◌^◌, ◌<◌, ◌≤◌, ◌↔◌, List, [], ◌++◌, length, drop, Option, Some}
use Rattle.std.proofs.Common.{None, Result, Ok, Err, refl, sym, ap, subst, ◌∙◌, ◌⊎◌, inl, inr, arith}
use Rattle.std.specs.Prelude.{slice_index, IfOk, IfErr}
use Rattle.std.proofs.lemmas.Bool.Decides.{nat_tests}
use Rattle.std.proofs.lemmas.Grind.{common_steps}
use Rattle.nz_base.specs.declared.actor.Actor.{Actor}
use Rattle.nz_base.specs.declared.actor.Actor.TheVariants.{Replica, Proxy, Client}
use Rattle.nz_base.specs.Actor.{HasAddress, address_of, actor_at}
use Rattle.nz_frame.specs.Address.{IsKind, IsAddress}
use Rattle.nz_frame.specs.Grammar.{IsFrame, AreBytes}
use Rattle.nz_frame.specs.declared.refusal.FrameRefusal.{FrameRefusal}
use Rattle.nz_frame.specs.declared.refusal.FrameRefusal.TheVariants.{Short}
use Rattle.nz_frame.specs.Refusal.{sender, receiver, refusal}
use Rattle.nz_frame.proofs.Bytes.{AreBytes-drop}
use Rattle.nz_frame.proofs.Readings as frames
use Rattle.nz_msg.specs.declared.message.Message.{Message}
use Rattle.nz_msg.specs.declared.message.Message.TheVariants.{Request, Timed, FastReply, SlowReply, Answer, LogMod, Fetch, FetchReply}
use Rattle.nz_msg.specs.declared.message.Message.TheVariants.{SyncReport, ViewAsk, ViewChange, StartView, VectorAsk, VectorTell}
use Rattle.nz_msg.specs.declared.message.Message.TheVariants.{RejoinAsk, RejoinTell, StateAsk, StateTell}
use Rattle.nz_msg.specs.declared.envelope.Envelope.{Envelope}
use Rattle.nz_msg.specs.declared.refusal.DecodeRefusal.{DecodeRefusal}
use Rattle.nz_msg.specs.declared.refusal.DecodeRefusal.TheVariants.{Frame, BadBody, NoMemory}
use Rattle.nz_msg.specs.Messages.{kind_of, Fits, body_of, body_at}
use Rattle.nz_msg.specs.Envelope.{encode_of, Spells, actor_if_known, unless_refused, envelope_if_read, decode_of, IsRefusedAs}
use Rattle.nz_msg.specs.declared.fault.Fault.{Fault}
use Rattle.nz_msg.specs.declared.fault.Fault.TheVariants as faults
use Rattle.nz_msg.specs.Reading.{Fails, IsPlaced, refusal_at}
use Rattle.nz_msg.proofs.Messages.{body_again, body_takes, body_long, body_within}

-- ---- kinds and addresses

pub kind_known : (m : Message) → IsKind (kind_of m)
kind_known (Request b) = refl
kind_known (Timed b) = refl
kind_known (FastReply b) = refl
kind_known (SlowReply b) = refl
kind_known (Answer b) = refl
kind_known (LogMod b) = refl
kind_known (Fetch b) = refl
kind_known (FetchReply b) = refl
kind_known (SyncReport b) = refl
kind_known (ViewAsk b) = refl
kind_known (ViewChange b) = refl
kind_known (StartView b) = refl
kind_known (VectorAsk b) = refl
kind_known (VectorTell b) = refl
kind_known (RejoinAsk b) = refl
kind_known (RejoinTell b) = refl
kind_known (StateAsk b) = refl
kind_known (StateTell b) = refl

pub address_known : (a : Actor) → HasAddress a → IsAddress (address_of a)
address_known (Replica r) h = grind (arith, nat_tests)
address_known (Proxy p) h = grind (arith, nat_tests)
address_known (Client c) h = grind (arith, nat_tests)

pub address_again : (a : Actor) → HasAddress a → actor_at (address_of a) ≡ Some a
address_again (Replica r) h = grind (arith, nat_tests)
address_again (Proxy p) h = grind (arith, nat_tests)
address_again (Client c) h = grind (arith, nat_tests)

-- an actor and its address
pub record IsAt (address : ℕ) (a : Actor) : Type 0 where
  pub known : HasAddress a
  pub same : address_of a ≡ address

pub actor_takes : (address : ℕ) (a : Actor) → actor_at address ≡ Some a → IsAt address a
actor_takes address (Replica r) e = record { known = grind (arith, common_steps); same = grind (arith, common_steps) }
actor_takes address (Proxy p) e = record { known = grind (arith, common_steps); same = grind (arith, common_steps) }
actor_takes address (Client c) e = record { known = grind (arith, common_steps); same = grind (arith, common_steps) }

-- ---- what is spelled is decoded

pub frame_of_message : (from to : Actor) (m : Message) → HasAddress from → HasAddress to → Fits m
    → IsFrame (encode_of from to m) (kind_of m) (address_of from) (address_of to) (body_of m)
unfolding encode_of
frame_of_message from to m hf ht h =
    let long = body_long m h in
    record { known = kind_known m; sender = address_known from hf; receiver = address_known to ht; fits = omega arith; spelled = refl }

pub decode-encode : (from to : Actor) (m : Message) → HasAddress from → HasAddress to → Fits m
    → decode_of (encode_of from to m) ≡ Ok (record { from = from; to = to; message = m })
unfolding decode_of
decode-encode from to m hf ht h =
    let f = frame_of_message from to m hf ht h in
    let bytes = encode_of from to m in
    let r = frames.read_of bytes _ _ _ _ f in
    let a : actor_at (sender bytes) ≡ Some from = ap actor_at r.from_is ∙ address_again from hf in
    let b : actor_at (receiver bytes) ≡ Some to = ap actor_at r.to_is ∙ address_again to ht in
    let c : body_at (slice_index bytes 5) (drop 10 bytes) ≡ Ok m =
    ap (λ (k : ℕ). body_at k (drop 10 bytes)) r.kind_is ∙ ap (body_at (kind_of m)) r.body_is ∙ body_again m h in
    rw (frames.accepted bytes _ _ _ _ f, a, b, c) refl

pub decode_spelled : (bytes : List ℕ) (e : Envelope) → Spells e bytes → decode_of bytes ≡ Ok e
decode_spelled bytes e s = ap decode_of s.spelled ∙ decode-encode e.from e.to e.message s.sender s.receiver s.fit

-- ---- what is decoded is spelled so

not_refused : (o : Option FrameRefusal) (r : Result Envelope DecodeRefusal) (e : Envelope) → unless_refused o r ≡ Ok e → (o ≡ None) × (r ≡ Ok e)
not_refused None r e h = (refl, h)
not_refused (Some f) r e h = absurd cc

named_takes : (place : ℕ) (o : Option Actor) (a : Actor) → actor_if_known place o ≡ Ok a → o ≡ Some a
named_takes place (Some b) a e = let same : b ≡ a = cc in ap (λ (x : Actor). Some x) same
named_takes place None a e = absurd cc

record AreParts (from to : Result Actor DecodeRefusal) (message : Result Message ℕ) (e : Envelope) : Type 0 where
  from_is : from ≡ Ok e.from
  to_is : to ≡ Ok e.to
  message_is : message ≡ Ok e.message

enveloped_takes : (size : ℕ) (from to : Result Actor DecodeRefusal) (message : Result Message ℕ) (e : Envelope)
    → envelope_if_read size from to message ≡ Ok e → AreParts from to message e
enveloped_takes size (Err r) to message e h = absurd cc
enveloped_takes size (Ok from) (Err r) message e h = absurd cc
enveloped_takes size (Ok from) (Ok to) (Err left) e h = absurd cc
enveloped_takes size (Ok from) (Ok to) (Ok message) e h =
    let same : record { from = from; to = to; message = message } ≡ e = cc in
    subst (λ (x : Envelope). AreParts (Ok from) (Ok to) (Ok message) x) same (record { from_is = refl; to_is = refl; message_is = refl })

pub decode_takes : (bytes : List ℕ) (e : Envelope) → AreBytes bytes → decode_of bytes ≡ Ok e → Spells e bytes
unfolding decode_of encode_of
decode_takes bytes e fits h =
    let n = not_refused (refusal bytes) _ e h in
    let f = frames.only_frames bytes fits n.0 in
    let p = enveloped_takes (length bytes) _ _ _ e n.1 in
    let from = actor_takes (sender bytes) e.from (named_takes 6 (actor_at (sender bytes)) e.from p.from_is) in
    let to = actor_takes (receiver bytes) e.to (named_takes 8 (actor_at (receiver bytes)) e.to p.to_is) in
    let b = body_takes (slice_index bytes 5) (drop 10 bytes) e.message (AreBytes-drop 10 bytes fits) p.message_is in
    record {
      sender = from.known;
      receiver = to.known;
      fit = b.fit;
      spelled = rw (b.same_kind, from.same, to.same, ← b.spelled) f.spelled;
    }

-- ---- the code's reading

pub known_actor : (address : ℕ) → IsAddress address → actor_at address ≡ None → ⊥
known_actor address h e = grind (arith, common_steps)

-- what the reader of the frame found, and what is read of the body
pub decoded_by : (bytes : List ℕ) (kind from to : ℕ) (body : List ℕ) (a b : Actor) (read : Result Message ℕ)
    → refusal bytes ≡ None → IsFrame bytes kind from to body → actor_at from ≡ Some a → actor_at to ≡ Some b → body_at kind body ≡ read
    → decode_of bytes ≡ envelope_if_read (length bytes) (Ok a) (Ok b) read
unfolding decode_of
decoded_by bytes kind from to body a b read none f ea eb e =
    let r = frames.read_of bytes kind from to body f in
    let pa : actor_at (sender bytes) ≡ Some a = ap actor_at r.from_is ∙ ea in
    let pb : actor_at (receiver bytes) ≡ Some b = ap actor_at r.to_is ∙ eb in
    let pm : body_at (slice_index bytes 5) (drop 10 bytes) ≡ read = ap (λ (k : ℕ). body_at k (drop 10 bytes)) r.kind_is ∙ ap (body_at kind) r.body_is ∙ e in
    rw (none, pa, pb, pm) refl

pub fault_placed : (bytes : List ℕ) (kind from to : ℕ) (body : List ℕ) (fault : Fault)
    → IsFrame bytes kind from to body → Fails fault (body_at kind body) → IsPlaced (length bytes) fault
fault_placed bytes kind from to body faults.NoMemory f e = tt
fault_placed bytes kind from to body (faults.Bad left) f e =
    let r = frames.read_of bytes kind from to body f in
    let inside = body_within kind body left e in
    omega (arith, inside, r.long)

pub frame_small : (bytes : List ℕ) (kind from to : ℕ) (body : List ℕ) → IsFrame bytes kind from to body → length bytes < 2 ^ 32
frame_small bytes kind from to body f = let r = frames.read_of bytes kind from to body f in let fits = f.fits in omega (arith, r.long)

-- what follows the header is the body
pub rest_is_body : (bytes : List ℕ) (kind from to : ℕ) (body rest : List ℕ) → IsFrame bytes kind from to body → rest ≡ drop 10 bytes → rest ≡ body
rest_is_body bytes kind from to body rest f is = let r = frames.read_of bytes kind from to body f in is ∙ r.body_is

pub fault_refused : (bytes : List ℕ) (kind from to : ℕ) (body : List ℕ) (a b : Actor) (fault : Fault)
    → refusal bytes ≡ None → IsFrame bytes kind from to body → actor_at from ≡ Some a → actor_at to ≡ Some b → Fails fault (body_at kind body)
    → IsRefusedAs bytes (refusal_at (length bytes) fault)
fault_refused bytes kind from to body a b faults.NoMemory none f ea eb e = tt
fault_refused bytes kind from to body a b (faults.Bad left) none f ea eb e = decoded_by bytes kind from to body a b (Err left) none f ea eb e

-- ---- the clauses of decode

pub all_spelled : (bytes : List ℕ) (r : Result Envelope DecodeRefusal) → AreBytes bytes → IfOk r (λ e. decode_of bytes ≡ Ok e) → IfOk r (λ e. Spells e bytes)
all_spelled bytes (Ok e) fits h = decode_takes bytes e fits h
all_spelled bytes (Err r) fits h = tt

only_memory : (bytes : List ℕ) (e : Envelope) (r : DecodeRefusal) → decode_of bytes ≡ Ok e → IsRefusedAs bytes r → r ≡ NoMemory
only_memory bytes e NoMemory d h = refl
only_memory bytes e (Frame f) d h = let clash : Ok e ≡ Err (Frame f) = sym d ∙ h in absurd cc
only_memory bytes e (BadBody place) d h = let clash : Ok e ≡ Err (BadBody place) = sym d ∙ h in absurd cc

pub all_decoded : (bytes : List ℕ) (r : Result Envelope DecodeRefusal) → IfOk r (λ e. decode_of bytes ≡ Ok e)
    → IfErr r (λ d. IsRefusedAs bytes d) → (e : Envelope) → Spells e bytes → (r ≡ Ok e) ⊎ (r ≡ Err NoMemory)
all_decoded bytes (Ok x) h k e s = inl (sym h ∙ decode_spelled bytes e s)
all_decoded bytes (Err d) h k e s = inr (ap (λ (y : DecodeRefusal). Err y) (only_memory bytes e d (decode_spelled bytes e s) k))

pub refused_by : (bytes : List ℕ) (r : FrameRefusal) → refusal bytes ≡ Some r → decode_of bytes ≡ Err (Frame r)
unfolding decode_of
refused_by bytes r e = rw e refl

-- ---- laws

pub spells_envelope : (bytes : List ℕ) (e : Envelope) → AreBytes bytes → (decode_of bytes ≡ Ok e) ↔ Spells e bytes
spells_envelope bytes e fits = (λ h. decode_takes bytes e fits h, λ s. decode_spelled bytes e s)

abbrev decoded : Envelope → Result Envelope DecodeRefusal
decoded e = Ok e

pub same_envelope : (bytes : List ℕ) (e f : Envelope) → Spells e bytes → Spells f bytes → e ≡ f
same_envelope bytes e f s t = let both : decoded e ≡ decoded f = sym (decode_spelled bytes e s) ∙ decode_spelled bytes f t in cc

pub frame_of : (e : Envelope) (bytes : List ℕ) → Spells e bytes → IsFrame bytes (kind_of e.message) (address_of e.from) (address_of e.to) (body_of e.message)
frame_of e bytes s =
    subst (λ (xs : List ℕ). IsFrame xs (kind_of e.message) (address_of e.from) (address_of e.to) (body_of e.message))
    (sym s.spelled) (frame_of_message e.from e.to e.message s.sender s.receiver s.fit)

pub no_prefix : (bytes rest : List ℕ) (e f : Envelope) → Spells e bytes → Spells f (bytes ++ rest) → rest ≡ []
no_prefix bytes rest e f s t = frames.no_prefix bytes rest _ _ _ _ _ _ _ _ (frame_of e bytes s) (frame_of f (bytes ++ rest) t)

pub cut_is_short : (bytes rest : List ℕ) (e : Envelope) → Spells e (bytes ++ rest) → 0 < length rest → decode_of bytes ≡ Err (Frame (Short (length bytes)))
cut_is_short bytes rest e s more = refused_by bytes (Short (length bytes)) (frames.cut_is_short bytes rest _ _ _ _ (frame_of e (bytes ++ rest) s) more)

-- an actor is named wrongly
abbrev BadFrom : Result Actor DecodeRefusal → Type 0
BadFrom (Ok a) = ⊥
BadFrom (Err d) = Unit {0}

named_well : (place : ℕ) (o : Option Actor) → (o ≡ None → ⊥) → BadFrom (actor_if_known place o) → ⊥
named_well place None known b = known refl
named_well place (Some a) known b = b

no_frame_refusal : (size : ℕ) (from to : Result Actor DecodeRefusal) (message : Result Message ℕ) (r : FrameRefusal)
    → (BadFrom from → ⊥) → (BadFrom to → ⊥) → envelope_if_read size from to message ≡ Err (Frame r) → ⊥
no_frame_refusal size (Err d) to message r p q h = p tt
no_frame_refusal size (Ok from) (Err d) message r p q h = q tt
no_frame_refusal size (Ok from) (Ok to) (Err left) r p q h = cc
no_frame_refusal size (Ok from) (Ok to) (Ok message) r p q h = cc

refused_first : (o : Option FrameRefusal) (x : Result Envelope DecodeRefusal) (r : FrameRefusal)
    → (o ≡ None → x ≡ Err (Frame r) → ⊥) → unless_refused o x ≡ Err (Frame r) → o ≡ Some r
refused_first None x r p h = absurd (p refl h)
refused_first (Some f) x r p h = let same : f ≡ r = cc in ap (λ (y : FrameRefusal). Some y) same

pub frames_first : (bytes : List ℕ) (r : FrameRefusal) → AreBytes bytes → (decode_of bytes ≡ Err (Frame r)) ↔ (refusal bytes ≡ Some r)
unfolding decode_of
frames_first bytes r fits = (
  refused_first (refusal bytes) _ r (λ none h.
      let f = frames.only_frames bytes fits none in
      no_frame_refusal (length bytes) _ _ _ r
      (named_well 6 (actor_at (sender bytes)) (known_actor (sender bytes) f.sender))
      (named_well 8 (actor_at (receiver bytes)) (known_actor (receiver bytes) f.receiver)) h),
  refused_by bytes r,
)

body_left : (size place : ℕ) (from to : Result Actor DecodeRefusal) (message : Result Message ℕ) → (BadFrom from → ⊥)
    → (BadFrom to → ⊥) → envelope_if_read size from to message ≡ Err (BadBody place) → (left : ℕ) × (message ≡ Err left) × (place ≡ size - left)
body_left size place (Err d) to message p q h = absurd (p tt)
body_left size place (Ok from) (Err d) message p q h = absurd (q tt)
body_left size place (Ok from) (Ok to) (Err left) p q h = (left, refl, cc)
body_left size place (Ok from) (Ok to) (Ok message) p q h = absurd cc

body_first : (o : Option FrameRefusal) (x : Result Envelope DecodeRefusal) (place : ℕ)
    → unless_refused o x ≡ Err (BadBody place) → (o ≡ None) × (x ≡ Err (BadBody place))
body_first None x place h = (refl, h)
body_first (Some f) x place h = absurd cc

-- where a body that is refused is at fault
pub record IsInBody (bytes : List ℕ) (place : ℕ) : Type 0 where
  pub after_header : 10 ≤ place
  pub in_frame : place ≤ length bytes

pub place_in_body : (bytes : List ℕ) (place : ℕ) → AreBytes bytes → decode_of bytes ≡ Err (BadBody place) → IsInBody bytes place
unfolding decode_of
place_in_body bytes place fits h =
    let n = body_first (refusal bytes) _ place h in
    let f = frames.only_frames bytes fits n.0 in
    let r = frames.read_of bytes _ _ _ _ f in
    let b =
    body_left (length bytes) place _ _ (body_at (slice_index bytes 5) (drop 10 bytes))
    (named_well 6 (actor_at (sender bytes)) (known_actor (sender bytes) f.sender))
    (named_well 8 (actor_at (receiver bytes)) (known_actor (receiver bytes) f.receiver)) n.1 in
    let inside = body_within (slice_index bytes 5) (drop 10 bytes) b.0 b.1 in
    let where_is = b.2 in
    let long = r.long in
    record { after_header = omega (arith, inside, where_is, long); in_frame = omega (arith, where_is) }
