-- What single fields of a frame show: whether a reply has an answer, and the request that is named.
use Rattle.std.proofs.Common.{◌≡◌, ℕ, ◌+◌, ◌*◌, ◌<◌, ◌^◌, ltb, Bool, true, false, cond, drop, List, [], ◌∷◌, ◌++◌, length, append_assoc, length-append}
use Rattle.std.proofs.Common.{get_or, Option, Some, None, Result, Ok, Err, refl, sym, ap, subst, ◌∙◌, inl, inr, arith}
use Rattle.std.specs.Prelude.{slice_get, is_some}
use Rattle.std.proofs.Math.Seq.{get_or-append_seam}
use Rattle.std.proofs.lemmas.Option.{none-some, same_Some, cond_some, slice_get-get_or}
use Rattle.std.specs.Option.{option_map}
use Rattle.std.proofs.lemmas.Bool.{cases_Bool, le-ltb}
use Rattle.std.proofs.lemmas.List.{drop_at}
use Rattle.byteorder.specs.Endian.{big_bytes, big_number}
use Rattle.byteorder.specs.Numbers.{big_number-reads_back}
use Rattle.nz_base.proofs.Booleans.{true_and_false}
use Rattle.nz_base.proofs.Names.{same_id}
use Rattle.nz_base.specs.Key.{id_eq}
use Rattle.nz_base.specs.Actor.{address_of}
use Rattle.nz_base.specs.declared.actor.Actor.{Actor}
use Rattle.nz_base.specs.declared.actor.Actor.TheVariants.{Replica, Proxy, Client}
use Rattle.nz_base.specs.declared.key.Id.{Id}
use Rattle.nz_store.specs.declared.command.Answer.{Answer}
use Rattle.nz_frame.specs.Grammar.{frame, AreBytes}
use Rattle.nz_msg.specs.Codec.{number_bytes, items_put, optional_put, optional, ◌then◌}
use Rattle.nz_msg.specs.Fields.{u32}
use Rattle.nz_msg.specs.Fields as fields
use Rattle.nz_msg.specs.Messages.{request, fast_reply, slow_reply, client_answer, Fits}
use Rattle.nz_msg.specs.Envelope.{encode_of, decode_of}
use Rattle.nz_msg.specs.declared.envelope.Envelope.{Envelope}
use Rattle.nz_msg.specs.declared.message.RequestBody.{RequestBody}
use Rattle.nz_msg.specs.declared.message.AnswerBody.{AnswerBody}
use Rattle.nz_msg.specs.declared.message.FastReplyBody.{FastReplyBody}
use Rattle.nz_msg.specs.declared.message.SlowReplyBody.{SlowReplyBody}
use Rattle.nz_msg.specs.declared.message.Message.{Message}
use Rattle.nz_msg.specs.declared.message.Message.TheVariants.{Request, FastReply, SlowReply}
use Rattle.nz_msg.specs.declared.message.Message.TheVariants.{Answer as AnswerMessage}
use Rattle.nz_msg.specs.declared.refusal.DecodeRefusal.{DecodeRefusal}
use Rattle.nz_msg.proofs.Envelopes.{decode_takes}
use Rattle.nz_machine.specs.declared.event.Parcel.{Parcel}
use Rattle.nz_machine.specs.declared.reply.Reply.{Reply}
use Rattle.nz_machine.specs.rules.Proxies.{of_fast, of_slow}
use Rattle.nz_machine.specs.rules.Step.{is_for, envelope_if_for, envelope_for, accepted_envelope}
use Rattle.nz_machine.specs.runs.Events.{id_at}
use Rattle.nz_audit.specs.Sources.{about_message, about_envelope, about, flag_after, is_one, shows_answer, named_id, named_num}
use Rattle.nz_audit.specs.declared.accepted.answers.Source.{Source}
use Rattle.nz_audit.specs.declared.sources.notes.Noted.{Noted}
use Rattle.nz_audit.specs.declared.sources.notes.Noted.TheVariants as noted
use Rattle.nz_audit.specs.Noting.{is_open, noted_after_request, noted_by, source_if_answer, after_message, after_envelope}
use Rattle.nz_audit.proofs.HeardParcels.{is_heard, is_received}

-- ---- the place of the byte

seam : (xs ys : List ℕ) (y n : ℕ) → n ≡ length xs → slice_get (xs ++ y ∷ ys) n ≡ Some y
seam xs ys y n e =
    slice_get-get_or (xs ++ y ∷ ys) n 0 (omega (arith, e, length-append xs (y ∷ ys)))
    ∙ ap Some (ap (λ (i : ℕ). get_or (xs ++ y ∷ ys) i 0) e ∙ get_or-append_seam xs y ys 0)

-- the bytes of counters, apart from what follows them
record AreCounters (before xs rest : List ℕ) : Type 0 where
  bytes : List ℕ
  spelled : items_put (λ (earlier : List ℕ). u32) before xs rest ≡ bytes ++ rest
  long : length bytes ≡ 4 * length xs

counters : (before xs rest : List ℕ) → AreCounters before xs rest
unfolding items_put number_bytes
counters before [] rest = record { bytes = []; spelled = refl; long = refl }
counters before (x ∷ xs) rest =
    let h = counters (before ++ x ∷ []) xs rest in
    record {
      bytes = big_bytes 4 x ++ h.bytes;
      spelled = ap (λ (l : List ℕ). big_bytes 4 x ++ l) h.spelled;
      long = let e = h.long in omega (arith, e);
    }

one_byte : (n : ℕ) → n < 256 → big_bytes 1 n ≡ n ∷ []
one_byte n lt = ap (λ (x : ℕ). x ∷ []) (omega (arith, lt))

flag_there : (bytes early counted rest : List ℕ) (n : ℕ) → bytes ≡ early ++ n ∷ (counted ++ 1 ∷ rest)
    → length early ≡ 46 → length counted ≡ 4 * n + 4 → shows_answer bytes ≡ true
flag_there bytes early counted rest n e first long =
    let again : bytes ≡ (early ++ n ∷ counted) ++ 1 ∷ rest = e ∙ sym (append_assoc early (n ∷ counted) (1 ∷ rest)) in
    let place : 51 + 4 * n ≡ length (early ++ n ∷ counted) = omega (arith, first, long, length-append early (n ∷ counted)) in
    let size : slice_get bytes 46 ≡ Some n = ap (λ (l : List ℕ). slice_get l 46) e ∙ seam early (counted ++ 1 ∷ rest) n 46 (sym first) in
    let flag : slice_get bytes (51 + 4 * n) ≡ Some 1 =
    ap (λ (l : List ℕ). slice_get l (51 + 4 * n)) again ∙ seam (early ++ n ∷ counted) rest 1 (51 + 4 * n) place in
    ap (λ (o : Option ℕ). is_one (flag_after bytes o)) size ∙ ap is_one flag

-- what is before the digest
abbrev head : ℕ → ℕ → ℕ → FastReplyBody → List ℕ
head long from to b =
    big_bytes 4 long ++ 1 ∷ 3 ∷ (big_bytes 2 from ++ big_bytes 2 to ++ big_bytes 8 b.view ++ big_bytes 4 b.id.client ++ big_bytes 4 b.id.num)

answer_flagged : (from to : Actor) (b : FastReplyBody) (a : Answer) → fast_reply.fits b → b.answer ≡ Some a
    → shows_answer (encode_of from to (FastReply b)) ≡ true
unfolding encode_of frame number_bytes
answer_flagged from to b a fits is =
    let n = length b.vector in
    let rest = fields.answer.put a [] in
    let delay = big_bytes 4 b.delay in
    let c = counters [] b.vector (delay ++ 1 ∷ rest) in
    let first = head (6 + length (fast_reply.put b [])) (address_of from) (address_of to) b in
    let whole : encode_of from to (FastReply b) ≡ (first ++ b.digest) ++ n ∷ ((c.bytes ++ delay) ++ 1 ∷ rest) =
    ap (λ (o : Option Answer). first ++ (b.digest ++ (big_bytes 1 n
    ++ items_put (λ (earlier : List ℕ). u32) [] b.vector (delay ++ optional_put fields.answer.put o [])))) is
    ∙ ap (λ (l : List ℕ). first ++ (b.digest ++ (big_bytes 1 n ++ l))) c.spelled
    ∙ ap (λ (l : List ℕ). first ++ (b.digest ++ (l ++ (c.bytes ++ (delay ++ 1 ∷ rest))))) (one_byte n fits.1.1.1.0.0.0)
    ∙ ap (λ (l : List ℕ). first ++ (b.digest ++ n ∷ l)) (sym (append_assoc c.bytes delay (1 ∷ rest))) in
    let digest : length b.digest ≡ 20 = fits.1.1.0 in
    let counted = c.long in
    flag_there (encode_of from to (FastReply b)) (first ++ b.digest) (c.bytes ++ delay) rest n whole
    (omega (arith, digest)) (omega (arith, length-append c.bytes delay, counted))

-- ---- a reply without it

decoded_ok : (me : Actor) (p : Parcel) (d : Result Envelope DecodeRefusal) (e : Envelope) → envelope_if_for me p d ≡ Some e → d ≡ Ok e
decoded_ok me p (Err refusal) e h = absurd (none-some e h)
decoded_ok me p (Ok found) e h = ap Ok (cond_some (is_for me p found) found e h).1

pub decoded_of : (me : Actor) (p : Parcel) (e : Envelope) → envelope_for me p ≡ Some e → decode_of p.frame ≡ Ok e
unfolding envelope_for
decoded_of me p e h = decoded_ok me p (decode_of p.frame) e h

answer_none : (from to : Actor) (b : FastReplyBody) (o : Option Answer) → fast_reply.fits b → b.answer ≡ o
    → shows_answer (encode_of from to (FastReply b)) ≡ false → cond (is_some o) (Some b.id) None ≡ None
answer_none from to b None fits is h = refl
answer_none from to b (Some a) fits is h =
    absurd (true_and_false (shows_answer (encode_of from to (FastReply b))) (answer_flagged from to b a fits is) h)

about_none : (k q : ℕ) (from to : Actor) (m : Message) → Fits m → shows_answer (encode_of from to m) ≡ false → about_message (Replica k) (Proxy q) m ≡ None
about_none k q from to (FastReply b) fits h = answer_none from to b b.answer fits refl h
about_none k q from to _ fits h = refl

-- a parcel from a replica to a proxy whose frame shows no answer
pub without_answer : (p : Parcel) (k q : ℕ) → AreBytes p.frame → p.from ≡ Replica k → p.to ≡ Proxy q → shows_answer p.frame ≡ false → about p ≡ None
without_answer p k q bytes from to h = by_envelope (envelope_for p.to p) refl
  where
    by_envelope : (o : Option Envelope) → envelope_for p.to p ≡ o → about_envelope o ≡ None
    by_envelope None e = refl
    by_envelope (Some x) e =
        let heard = is_heard p.to p x e in
        let s = decode_takes p.frame x bytes (decoded_of p.to p x e) in
        (λ i. about_message ((heard.from ∙ from) i) ((heard.receiver ∙ to) i) x.message)
        ∙ about_none k q x.from x.to x.message s.fit (ap shows_answer (sym s.spelled) ∙ h)

-- ---- the request that a reply names

named_at : (bytes before rest : List ℕ) (id : Id) → bytes ≡ before ++ (big_bytes 4 id.client ++ (big_bytes 4 id.num ++ rest)) → length before ≡ 18
    → id.client < 256 ^ 4 → id.num < 256 ^ 4 → named_id bytes ≡ Some id
named_at bytes before rest id e long client num =
    let second = big_bytes 4 id.num ++ rest in
    let enough : ltb (length (before ++ (big_bytes 4 id.client ++ second))) 26 ≡ false =
    le-ltb (length (before ++ (big_bytes 4 id.client ++ second))) 26 (omega (arith, long, length-append before (big_bytes 4 id.client ++ second))) in
    let there : drop 18 (before ++ (big_bytes 4 id.client ++ second)) ≡ big_bytes 4 id.client ++ second =
    drop_at before (big_bytes 4 id.client ++ second) 18 long in
    let next : drop 22 (before ++ (big_bytes 4 id.client ++ second)) ≡ second =
    ap (λ (l : List ℕ). drop 22 l) (sym (append_assoc before (big_bytes 4 id.client) second))
    ∙ drop_at (before ++ big_bytes 4 id.client) second 22 (omega (arith, long, length-append before (big_bytes 4 id.client))) in
    ap named_id e
    ∙ ap (λ (b : Bool). cond b None (Some (record {
      client = big_number 4 (drop 18 (before ++ (big_bytes 4 id.client ++ second)));
      num = big_number 4 (drop 22 (before ++ (big_bytes 4 id.client ++ second)));
    }))) enough
    ∙ (λ i. Some (record {
      client = (ap (big_number 4) there ∙ big_number-reads_back 4 id.client second client) i;
      num = (ap (big_number 4) next ∙ big_number-reads_back 4 id.num rest num) i;
    }))

-- what is before the id
abbrev before_id : ℕ → ℕ → ℕ → ℕ → ℕ → List ℕ
before_id kind long from to view = big_bytes 4 long ++ 1 ∷ kind ∷ (big_bytes 2 from ++ big_bytes 2 to ++ big_bytes 8 view)

pub fast_named : (from to : Actor) (b : FastReplyBody) → fast_reply.fits b → named_id (encode_of from to (FastReply b)) ≡ Some b.id
unfolding encode_of frame number_bytes
fast_named from to b fits =
    named_at (encode_of from to (FastReply b)) (before_id 3 (6 + length (fast_reply.put b [])) (address_of from) (address_of to) b.view)
    ((fields.digest then fields.vector then u32 then optional fields.answer).put (b.digest, (b.vector, (b.delay, b.answer))) []) b.id refl refl
    fits.1.0.0 fits.1.0.1

pub slow_named : (from to : Actor) (b : SlowReplyBody) → slow_reply.fits b → named_id (encode_of from to (SlowReply b)) ≡ Some b.id
unfolding encode_of frame number_bytes
slow_named from to b fits =
    named_at (encode_of from to (SlowReply b)) (before_id 4 (6 + length (slow_reply.put b [])) (address_of from) (address_of to) b.view)
    (big_bytes 4 b.delay) b.id refl refl fits.1.0.0 fits.1.0.1

-- what is before the body
abbrev before_body : ℕ → ℕ → ℕ → ℕ → List ℕ
before_body kind long from to = big_bytes 4 long ++ 1 ∷ kind ∷ (big_bytes 2 from ++ big_bytes 2 to)

num_at : (bytes before rest : List ℕ) (num : ℕ) → bytes ≡ before ++ (big_bytes 4 num ++ rest) → length before ≡ 10 → num < 256 ^ 4
    → named_num bytes ≡ Some num
num_at bytes before rest num e long fits =
    let enough : ltb (length (before ++ (big_bytes 4 num ++ rest))) 14 ≡ false =
    le-ltb (length (before ++ (big_bytes 4 num ++ rest))) 14 (omega (arith, long, length-append before (big_bytes 4 num ++ rest))) in
    let there : drop 10 (before ++ (big_bytes 4 num ++ rest)) ≡ big_bytes 4 num ++ rest = drop_at before (big_bytes 4 num ++ rest) 10 long in
    ap named_num e
    ∙ ap (λ (b : Bool). cond b None (Some (big_number 4 (drop 10 (before ++ (big_bytes 4 num ++ rest)))))) enough
    ∙ ap Some (ap (big_number 4) there ∙ big_number-reads_back 4 num rest fits)

request_named : (from to : Actor) (b : RequestBody) → request.fits b → named_num (encode_of from to (Request b)) ≡ Some b.num
unfolding encode_of frame number_bytes
request_named from to b fits =
    num_at (encode_of from to (Request b)) (before_body 1 (6 + length (request.put b [])) (address_of from) (address_of to))
    (fields.command.put b.command []) b.num refl refl fits.0

answer_named : (from to : Actor) (b : AnswerBody) → client_answer.fits b → named_num (encode_of from to (AnswerMessage b)) ≡ Some b.num
unfolding encode_of frame number_bytes
answer_named from to b fits =
    num_at (encode_of from to (AnswerMessage b)) (before_body 5 (6 + length (client_answer.put b [])) (address_of from) (address_of to))
    ((fields.answer then fields.path).put (b.answer, b.path) []) b.num refl refl fits.0

-- ---- the request that a parcel is about

-- the message of a parcel that is about a request
record IsSpelled (p : Parcel) (id : Id) : Type 0 where
  from : Actor
  to : Actor
  message : Message
  fit : Fits message
  spelled : encode_of from to message ≡ p.frame
  about : about_message p.from p.to message ≡ Some id

about_spelled : (p : Parcel) (id : Id) → AreBytes p.frame → about p ≡ Some id → IsSpelled p id
about_spelled p id bytes is = by_envelope (envelope_for p.to p) refl
  where
    by_envelope : (o : Option Envelope) → envelope_for p.to p ≡ o → IsSpelled p id
    by_envelope None e = absurd (none-some id (sym (ap about_envelope e) ∙ is))
    by_envelope (Some x) e =
        let heard = is_heard p.to p x e in
        let s = decode_takes p.frame x bytes (decoded_of p.to p x e) in
        record {
          from = x.from;
          to = x.to;
          message = x.message;
          fit = s.fit;
          spelled = sym s.spelled;
          about = (λ i. about_message (sym heard.from i) (sym heard.receiver i) x.message) ∙ sym (ap about_envelope e) ∙ is;
        }

reply_is_named : (k q : ℕ) (from to : Actor) (m : Message) (id : Id) → Fits m → about_message (Replica k) (Proxy q) m ≡ Some id
    → named_id (encode_of from to m) ≡ Some id
reply_is_named k q from to (FastReply b) id fits is = fast_named from to b fits ∙ ap Some (cond_some (is_some b.answer) b.id id is).1
reply_is_named k q from to _ id fits is = absurd (none-some id is)

answer_is_named : (q c : ℕ) (from to : Actor) (m : Message) (id : Id) → Fits m → about_message (Proxy q) (Client c) m ≡ Some id
    → option_map (id_at c) (named_num (encode_of from to m)) ≡ Some id
answer_is_named q c from to (AnswerMessage b) id fits is = ap (option_map (id_at c)) (answer_named from to b fits) ∙ is
answer_is_named q c from to _ id fits is = absurd (none-some id is)

-- a reply with an answer
pub reply_about : (p : Parcel) (k q : ℕ) (id : Id) → AreBytes p.frame → p.from ≡ Replica k → p.to ≡ Proxy q → about p ≡ Some id
    → named_id p.frame ≡ Some id
reply_about p k q id bytes from to is =
    let s = about_spelled p id bytes is in
    ap named_id (sym s.spelled)
    ∙ reply_is_named k q s.from s.to s.message id s.fit ((λ i. about_message (sym from i) (sym to i) s.message) ∙ s.about)

-- an answer for a client
pub answer_about : (p : Parcel) (q c : ℕ) (id : Id) → AreBytes p.frame → p.from ≡ Proxy q → p.to ≡ Client c → about p ≡ Some id
    → option_map (id_at c) (named_num p.frame) ≡ Some id
answer_about p q c id bytes from to is =
    let s = about_spelled p id bytes is in
    ap (λ (l : List ℕ). option_map (id_at c) (named_num l)) (sym s.spelled)
    ∙ answer_is_named q c s.from s.to s.message id s.fit ((λ i. about_message (sym from i) (sym to i) s.message) ∙ s.about)

-- ---- a request that is not wanted

either_down : (down : Bool) (before after : Option Noted) → after ≡ before → cond down before after ≡ before
either_down true before after e = refl
either_down false before after e = e

request_ignored : (w : Id → Bool) (f : ℕ) (source : Option Source) (silent : Bool) (x : Id) (c n : ℕ) (from to : Actor) (m : Message)
    (known : Option Noted) → Fits m → named_num (encode_of from to m) ≡ Some n → w (id_at c n) ≡ false → w x ≡ true
    → after_message f source silent x (Client c) m known ≡ known
request_ignored w f source silent x c n from to (Request b) known fits is other wanted = elim (cases_Bool (id_eq (id_at c b.num) x)) [
  | inl same ↦
      let num : b.num ≡ n = same_Some b.num n (sym (request_named from to b fits) ∙ is) in
      absurd (true_and_false (w x) wanted (ap w (sym (same_id (id_at c b.num) x same) ∙ ap (id_at c) num) ∙ other))
  | inr away ↦ ap (λ (t : Bool). cond t (noted_after_request f known) known) away
]
request_ignored w f source silent x c n from to _ known fits is other wanted = refl

pub other_ignored : (w : Id → Bool) (p : Parcel) (c n : ℕ) → AreBytes p.frame → p.from ≡ Client c → named_num p.frame ≡ Some n → w (id_at c n) ≡ false
    → (id : Id) → w id ≡ true → (f me : ℕ) (source : Option Source) (silent down : Bool) (known : Option Noted)
    → after_envelope f source silent down id (accepted_envelope f (Proxy me) p) known ≡ known
other_ignored w p c n bytes from is other id wanted f me source silent down known = by_envelope (accepted_envelope f (Proxy me) p) refl
  where
    by_envelope : (o : Option Envelope) → accepted_envelope f (Proxy me) p ≡ o → after_envelope f source silent down id o known ≡ known
    by_envelope None e = refl
    by_envelope (Some m) e =
        let heard = is_received f (Proxy me) p m e in
        let s = decode_takes p.frame m bytes (decoded_of (Proxy me) p m heard.heard) in
        either_down down known (after_message f source silent id m.from m.message known)
        (ap (λ (a : Actor). after_message f source silent id a m.message known) (heard.from ∙ from)
        ∙ request_ignored w f source silent id c n m.from m.to m.message known s.fit (ap named_num (sym s.spelled) ∙ is) other wanted)

-- ---- a reply to a request that is not open

abbrev pub IsPast : Option Noted → Type 0
IsPast None = Unit {0}
IsPast (Some (noted.Open notes)) = ⊥
IsPast (Some (noted.Decided source)) = Unit {0}

pub past_if_not_open : (known : Option Noted) → is_open known ≡ false → IsPast known
past_if_not_open None h = tt
past_if_not_open (Some (noted.Open notes)) h = absurd cc
past_if_not_open (Some (noted.Decided source)) h = tt

past_noted : (silent : Bool) (reply : Reply) (source : Option Source) (known : Option Noted) → IsPast known
    → option_map (noted_by silent reply source) known ≡ known
past_noted silent reply source None h = refl
past_noted silent reply source (Some (noted.Open notes)) h = absurd h
past_noted silent reply source (Some (noted.Decided s)) h = refl

past_at : (b silent : Bool) (reply : Reply) (source : Option Source) (own x : Id) (known : Id → Option Noted) → id_eq own x ≡ b → IsPast (known own)
    → cond b (option_map (noted_by silent reply source) (known x)) (known x) ≡ known x
past_at true silent reply source own x known e h =
    past_noted silent reply source (known x) (subst (λ (i : Id). IsPast (known i)) (same_id own x e) h)
past_at false silent reply source own x known e h = refl

-- what the frame names is not open
abbrev AreNotOpen : List ℕ → (Id → Option Noted) → Type 0
AreNotOpen bytes known = (id : Id) → named_id bytes ≡ Some id → IsPast (known id)

past_message : (f : ℕ) (source : Option Source) (silent : Bool) (x : Id) (k : ℕ) (from to : Actor) (m : Message) (known : Id → Option Noted) → Fits m
    → AreNotOpen (encode_of from to m) known → after_message f source silent x (Replica k) m (known x) ≡ known x
past_message f source silent x k from to (FastReply b) known fits h =
    past_at (id_eq b.id x) silent (of_fast k b) (source_if_answer source (of_fast k b)) b.id x known refl (h b.id (fast_named from to b fits))
past_message f source silent x k from to (SlowReply b) known fits h =
    past_at (id_eq b.id x) silent (of_slow k b) (source_if_answer source (of_slow k b)) b.id x known refl (h b.id (slow_named from to b fits))
past_message f source silent x k from to _ known fits h = refl

pub past_stays : (p : Parcel) (k : ℕ) (known : Id → Option Noted) → AreBytes p.frame → p.from ≡ Replica k → AreNotOpen p.frame known
    → (f me : ℕ) (source : Option Source) (silent down : Bool) (x : Id)
    → after_envelope f source silent down x (accepted_envelope f (Proxy me) p) (known x) ≡ known x
past_stays p k known bytes from h f me source silent down x = by_envelope (accepted_envelope f (Proxy me) p) refl
  where
    by_envelope : (o : Option Envelope) → accepted_envelope f (Proxy me) p ≡ o → after_envelope f source silent down x o (known x) ≡ known x
    by_envelope None e = refl
    by_envelope (Some m) e =
        let heard = is_received f (Proxy me) p m e in
        let s = decode_takes p.frame m bytes (decoded_of (Proxy me) p m heard.heard) in
        let not_open : AreNotOpen (encode_of m.from m.to m.message) known = subst (λ (l : List ℕ). AreNotOpen l known) s.spelled h in
        either_down down (known x) (after_message f source silent x m.from m.message (known x))
        (ap (λ (a : Actor). after_message f source silent x a m.message (known x)) (heard.from ∙ from)
        ∙ past_message f source silent x k m.from m.to m.message known s.fit not_open)
