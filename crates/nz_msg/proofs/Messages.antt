-- Each message is read as it is spelled.
use Rattle.nz_base.specs.declared.limits.TheConstants.{MAX_ENTRIES}
use Rattle.std.proofs.Common.{◌≡◌, ℕ, ◌+◌, ◌≤◌, Bool, true, false, cond, eqb, List, [], length, Result, Ok, Err, refl, sym, ap, subst, ◌∙◌, arith}
use Rattle.std.specs.Prelude.{max}
use Rattle.std.proofs.lemmas.Bool.{eqb-true}
use Rattle.std.proofs.lemmas.List.{nil_from_length}
use Rattle.nz_frame.specs.Grammar.{AreBytes}
use Rattle.nz_msg.specs.declared.message.Message.{Message}
use Rattle.nz_msg.specs.declared.message.Message.TheVariants.{Request, Timed, FastReply, SlowReply, Answer, LogMod, Fetch, FetchReply}
use Rattle.nz_msg.specs.declared.message.Message.TheVariants.{SyncReport, ViewAsk, ViewChange, StartView, VectorAsk, VectorTell}
use Rattle.nz_msg.specs.declared.message.Message.TheVariants.{RejoinAsk, RejoinTell, StateAsk, StateTell}
use Rattle.nz_msg.specs.Codec.{Codec, ◌>>=◌, ◌leading◌, ◌then◌}
use Rattle.nz_msg.specs.Fields.{u32, answer, entries}
use Rattle.nz_msg.specs.Messages.{request, timed, fast_reply, slow_reply, client_answer, log_mod, fetch, fetch_reply, sync_report}
use Rattle.nz_msg.specs.Messages.{view_ask, view_change, start_view, vector_ask, vector_tell, rejoin_ask, rejoin_tell}
use Rattle.nz_msg.specs.Messages.{state_ask, state_tell, kind_of, Fits, body_of, IsBody, whole, body_at}
use Rattle.nz_msg.proofs.Codecs.{IsExact, IsWithin, bind_ok, passed, then_exact, leading_exact, made_exact, optional_exact}
use Rattle.nz_msg.proofs.Fields.{u32_exact, u64_exact, view_exact, deadline_exact, id_exact, command_exact, digest_exact}
use Rattle.nz_msg.proofs.Fields.{vector_exact, answer_exact, path_exact, ids_exact, keys_exact, longest_entries, entries_exact}

-- ---- the bodies

-- The bytes of the longest log: how many entries are committed, and the entries.
abbrev longest_log : ℕ
longest_log = 4 + longest_entries

abbrev longest_fetch_reply : ℕ
longest_fetch_reply = 8 + longest_entries

-- No message has a longer body.
abbrev pub longest_view_change : ℕ
longest_view_change = 61 + longest_entries

abbrev longest_start_view : ℕ
longest_start_view = 45 + longest_log

abbrev longest_state_tell : ℕ
longest_state_tell = 53 + longest_log

-- the entries of a log, of which some are committed
log_exact : IsExact (u32 leading λ commit. entries commit MAX_ENTRIES) longest_log
log_exact =
    leading_exact u32 (λ commit. entries commit MAX_ENTRIES) 4 longest_entries u32_exact
    (λ commit h. entries_exact commit MAX_ENTRIES (omega arith)) (λ commit bytes. (entries_exact commit MAX_ENTRIES (omega arith)).within bytes)

request_exact : IsExact request 558
request_exact = made_exact _ _ _ 558 (λ b. refl) (λ p h. refl) (then_exact _ _ 4 554 u32_exact command_exact)

timed_exact : IsExact timed 578
timed_exact =
    made_exact _ _ _ 578 (λ b. refl) (λ p h. refl)
    (then_exact _ _ 8 570 u64_exact (then_exact _ _ 8 562 deadline_exact (then_exact _ _ 8 554 id_exact command_exact)))

fast_reply_exact : IsExact fast_reply 337
fast_reply_exact =
    made_exact _ _ _ 337 (λ b. refl) (λ p h. refl)
    (then_exact _ _ 8 329 view_exact
    (then_exact _ _ 8 321 id_exact
    (then_exact _ _ 20 301 digest_exact
    (then_exact _ _ 37 264 vector_exact (then_exact _ _ 4 260 u32_exact (optional_exact answer 259 answer_exact))))))

slow_reply_exact : IsExact slow_reply 20
slow_reply_exact = made_exact _ _ _ 20 (λ b. refl) (λ p h. refl) (then_exact _ _ 8 12 view_exact (then_exact _ _ 8 4 id_exact u32_exact))

client_answer_exact : IsExact client_answer 264
client_answer_exact = made_exact _ _ _ 264 (λ b. refl) (λ p h. refl) (then_exact _ _ 4 260 u32_exact (then_exact _ _ 259 1 answer_exact path_exact))

log_mod_exact : IsExact log_mod 1078
log_mod_exact =
    made_exact _ _ _ 1078 (λ b. refl) (λ p h. refl)
    (then_exact _ _ 8 1070 view_exact
    (then_exact _ _ 37 1033 vector_exact (then_exact _ _ 4 1029 u32_exact (then_exact _ _ 4 1025 u32_exact keys_exact))))

fetch_exact : IsExact fetch 521
fetch_exact = made_exact _ _ _ 521 (λ b. refl) (λ p h. refl) (then_exact _ _ 8 513 view_exact ids_exact)

fetch_reply_exact : IsExact fetch_reply longest_fetch_reply
fetch_reply_exact = made_exact _ _ _ longest_fetch_reply (λ b. refl) (λ p h. refl) (then_exact _ _ 8 longest_entries view_exact (entries_exact 0 64 (omega arith)))

sync_report_exact : IsExact sync_report 12
sync_report_exact = made_exact _ _ _ 12 (λ b. refl) (λ p h. refl) (then_exact _ _ 8 4 view_exact u32_exact)

view_ask_exact : IsExact view_ask 8
view_ask_exact = made_exact _ _ _ 8 (λ b. refl) (λ p h. refl) view_exact

view_change_exact : IsExact view_change longest_view_change
view_change_exact =
    made_exact _ _ _ longest_view_change (λ b. refl) (λ p h. refl)
    (then_exact _ _ 8 (53 + longest_entries) view_exact
    (then_exact _ _ 8 (45 + longest_entries) view_exact
    (then_exact _ _ 37 (8 + longest_entries) vector_exact
    (leading_exact (u32 then u32) (λ p. entries (max p.0 p.1) MAX_ENTRIES) 8 longest_entries (then_exact u32 u32 4 4 u32_exact u32_exact)
    (λ p h. entries_exact (max p.0 p.1) MAX_ENTRIES (omega arith)) (λ p bytes. (entries_exact (max p.0 p.1) MAX_ENTRIES (omega arith)).within bytes)))))

start_view_exact : IsExact start_view longest_start_view
start_view_exact = made_exact _ _ _ longest_start_view (λ b. refl) (λ p h. refl) (then_exact _ _ 8 (37 + longest_log) view_exact (then_exact _ _ 37 longest_log vector_exact log_exact))

vector_ask_exact : IsExact vector_ask 8
vector_ask_exact = made_exact _ _ _ 8 (λ b. refl) (λ p h. refl) u64_exact

vector_tell_exact : IsExact vector_tell 45
vector_tell_exact = made_exact _ _ _ 45 (λ b. refl) (λ p h. refl) (then_exact _ _ 8 37 u64_exact vector_exact)

rejoin_ask_exact : IsExact rejoin_ask 45
rejoin_ask_exact = made_exact _ _ _ 45 (λ b. refl) (λ p h. refl) (then_exact _ _ 8 37 u64_exact vector_exact)

rejoin_tell_exact : IsExact rejoin_tell 53
rejoin_tell_exact = made_exact _ _ _ 53 (λ b. refl) (λ p h. refl) (then_exact _ _ 8 45 u64_exact (then_exact _ _ 8 37 view_exact vector_exact))

state_ask_exact : IsExact state_ask 53
state_ask_exact = made_exact _ _ _ 53 (λ b. refl) (λ p h. refl) (then_exact _ _ 8 45 u64_exact (then_exact _ _ 8 37 view_exact vector_exact))

state_tell_exact : IsExact state_tell longest_state_tell
state_tell_exact =
    made_exact _ _ _ longest_state_tell (λ b. refl) (λ p h. refl)
    (then_exact _ _ 8 (45 + longest_log) u64_exact (then_exact _ _ 8 (37 + longest_log) view_exact (then_exact _ _ 37 longest_log vector_exact log_exact)))

-- ---- whole bodies

whole_again : {A : Type 0} (c : Codec A) (size : ℕ) (make : A → Message) → IsExact c size → (a : A) → c.fits a → whole c make (c.put a []) ≡ Ok (make a)
whole_again c size make p a h = rw (p.again a [] h) refl

-- what a whole body was read as
record IsWhole {A : Type 0} (c : Codec A) (make : A → Message) (bytes : List ℕ) (message : Message) : Type 0 where
  value : A
  made : make value ≡ message
  fit : c.fits value
  spelled : bytes ≡ c.put value []

whole_takes : {A : Type 0} (c : Codec A) (size : ℕ) (make : A → Message) → IsExact c size
    → (bytes : List ℕ) (message : Message) → AreBytes bytes → whole c make bytes ≡ Ok message → IsWhole c make bytes message
whole_takes c size make p bytes message fits e =
    let f = bind_ok (c.get bytes) (λ x. cond (eqb (length x.1) 0) (Ok (make x.0)) (Err (length x.1))) message e in
    let g = passed (eqb (length f.0.1) 0) (length f.0.1) (make f.0.0) message f.2 in
    let t = p.takes bytes f.0 fits f.1 in
    let nothing_left : f.0.1 ≡ [] = nil_from_length f.0.1 (eqb-true _ _ g.0) in
    record { value = f.0.0; made = g.1; fit = t.fit; spelled = t.spelled ∙ ap (c.put f.0.0) nothing_left }

request_body : (bytes : List ℕ) (message : Message) → AreBytes bytes → whole request Request bytes ≡ Ok message → IsBody 1 bytes message
request_body bytes message fits e =
    let w = whole_takes request 558 Request request_exact bytes message fits e in
    subst (λ (m : Message). IsBody 1 bytes m) w.made (record { same_kind = refl; fit = w.fit; spelled = w.spelled })

timed_body : (bytes : List ℕ) (message : Message) → AreBytes bytes → whole timed Timed bytes ≡ Ok message → IsBody 2 bytes message
timed_body bytes message fits e =
    let w = whole_takes timed 578 Timed timed_exact bytes message fits e in
    subst (λ (m : Message). IsBody 2 bytes m) w.made (record { same_kind = refl; fit = w.fit; spelled = w.spelled })

fast_reply_body : (bytes : List ℕ) (message : Message) → AreBytes bytes → whole fast_reply FastReply bytes ≡ Ok message → IsBody 3 bytes message
fast_reply_body bytes message fits e =
    let w = whole_takes fast_reply 337 FastReply fast_reply_exact bytes message fits e in
    subst (λ (m : Message). IsBody 3 bytes m) w.made (record { same_kind = refl; fit = w.fit; spelled = w.spelled })

slow_reply_body : (bytes : List ℕ) (message : Message) → AreBytes bytes → whole slow_reply SlowReply bytes ≡ Ok message → IsBody 4 bytes message
slow_reply_body bytes message fits e =
    let w = whole_takes slow_reply 20 SlowReply slow_reply_exact bytes message fits e in
    subst (λ (m : Message). IsBody 4 bytes m) w.made (record { same_kind = refl; fit = w.fit; spelled = w.spelled })

client_answer_body : (bytes : List ℕ) (message : Message) → AreBytes bytes → whole client_answer Answer bytes ≡ Ok message → IsBody 5 bytes message
client_answer_body bytes message fits e =
    let w = whole_takes client_answer 264 Answer client_answer_exact bytes message fits e in
    subst (λ (m : Message). IsBody 5 bytes m) w.made (record { same_kind = refl; fit = w.fit; spelled = w.spelled })

log_mod_body : (bytes : List ℕ) (message : Message) → AreBytes bytes → whole log_mod LogMod bytes ≡ Ok message → IsBody 6 bytes message
log_mod_body bytes message fits e =
    let w = whole_takes log_mod 1078 LogMod log_mod_exact bytes message fits e in
    subst (λ (m : Message). IsBody 6 bytes m) w.made (record { same_kind = refl; fit = w.fit; spelled = w.spelled })

fetch_body : (bytes : List ℕ) (message : Message) → AreBytes bytes → whole fetch Fetch bytes ≡ Ok message → IsBody 7 bytes message
fetch_body bytes message fits e =
    let w = whole_takes fetch 521 Fetch fetch_exact bytes message fits e in
    subst (λ (m : Message). IsBody 7 bytes m) w.made (record { same_kind = refl; fit = w.fit; spelled = w.spelled })

fetch_reply_body : (bytes : List ℕ) (message : Message) → AreBytes bytes → whole fetch_reply FetchReply bytes ≡ Ok message → IsBody 8 bytes message
fetch_reply_body bytes message fits e =
    let w = whole_takes fetch_reply longest_fetch_reply FetchReply fetch_reply_exact bytes message fits e in
    subst (λ (m : Message). IsBody 8 bytes m) w.made (record { same_kind = refl; fit = w.fit; spelled = w.spelled })

sync_report_body : (bytes : List ℕ) (message : Message) → AreBytes bytes → whole sync_report SyncReport bytes ≡ Ok message → IsBody 9 bytes message
sync_report_body bytes message fits e =
    let w = whole_takes sync_report 12 SyncReport sync_report_exact bytes message fits e in
    subst (λ (m : Message). IsBody 9 bytes m) w.made (record { same_kind = refl; fit = w.fit; spelled = w.spelled })

view_ask_body : (bytes : List ℕ) (message : Message) → AreBytes bytes → whole view_ask ViewAsk bytes ≡ Ok message → IsBody 10 bytes message
view_ask_body bytes message fits e =
    let w = whole_takes view_ask 8 ViewAsk view_ask_exact bytes message fits e in
    subst (λ (m : Message). IsBody 10 bytes m) w.made (record { same_kind = refl; fit = w.fit; spelled = w.spelled })

view_change_body : (bytes : List ℕ) (message : Message) → AreBytes bytes → whole view_change ViewChange bytes ≡ Ok message → IsBody 11 bytes message
view_change_body bytes message fits e =
    let w = whole_takes view_change longest_view_change ViewChange view_change_exact bytes message fits e in
    subst (λ (m : Message). IsBody 11 bytes m) w.made (record { same_kind = refl; fit = w.fit; spelled = w.spelled })

start_view_body : (bytes : List ℕ) (message : Message) → AreBytes bytes → whole start_view StartView bytes ≡ Ok message → IsBody 12 bytes message
start_view_body bytes message fits e =
    let w = whole_takes start_view longest_start_view StartView start_view_exact bytes message fits e in
    subst (λ (m : Message). IsBody 12 bytes m) w.made (record { same_kind = refl; fit = w.fit; spelled = w.spelled })

vector_ask_body : (bytes : List ℕ) (message : Message) → AreBytes bytes → whole vector_ask VectorAsk bytes ≡ Ok message → IsBody 13 bytes message
vector_ask_body bytes message fits e =
    let w = whole_takes vector_ask 8 VectorAsk vector_ask_exact bytes message fits e in
    subst (λ (m : Message). IsBody 13 bytes m) w.made (record { same_kind = refl; fit = w.fit; spelled = w.spelled })

vector_tell_body : (bytes : List ℕ) (message : Message) → AreBytes bytes → whole vector_tell VectorTell bytes ≡ Ok message → IsBody 14 bytes message
vector_tell_body bytes message fits e =
    let w = whole_takes vector_tell 45 VectorTell vector_tell_exact bytes message fits e in
    subst (λ (m : Message). IsBody 14 bytes m) w.made (record { same_kind = refl; fit = w.fit; spelled = w.spelled })

rejoin_ask_body : (bytes : List ℕ) (message : Message) → AreBytes bytes → whole rejoin_ask RejoinAsk bytes ≡ Ok message → IsBody 15 bytes message
rejoin_ask_body bytes message fits e =
    let w = whole_takes rejoin_ask 45 RejoinAsk rejoin_ask_exact bytes message fits e in
    subst (λ (m : Message). IsBody 15 bytes m) w.made (record { same_kind = refl; fit = w.fit; spelled = w.spelled })

rejoin_tell_body : (bytes : List ℕ) (message : Message) → AreBytes bytes → whole rejoin_tell RejoinTell bytes ≡ Ok message → IsBody 16 bytes message
rejoin_tell_body bytes message fits e =
    let w = whole_takes rejoin_tell 53 RejoinTell rejoin_tell_exact bytes message fits e in
    subst (λ (m : Message). IsBody 16 bytes m) w.made (record { same_kind = refl; fit = w.fit; spelled = w.spelled })

state_ask_body : (bytes : List ℕ) (message : Message) → AreBytes bytes → whole state_ask StateAsk bytes ≡ Ok message → IsBody 17 bytes message
state_ask_body bytes message fits e =
    let w = whole_takes state_ask 53 StateAsk state_ask_exact bytes message fits e in
    subst (λ (m : Message). IsBody 17 bytes m) w.made (record { same_kind = refl; fit = w.fit; spelled = w.spelled })

state_tell_body : (bytes : List ℕ) (message : Message) → AreBytes bytes → whole state_tell StateTell bytes ≡ Ok message → IsBody 18 bytes message
state_tell_body bytes message fits e =
    let w = whole_takes state_tell longest_state_tell StateTell state_tell_exact bytes message fits e in
    subst (λ (m : Message). IsBody 18 bytes m) w.made (record { same_kind = refl; fit = w.fit; spelled = w.spelled })

-- ---- any kind

pub body_again : (m : Message) → Fits m → body_at (kind_of m) (body_of m) ≡ Ok m
unfolding body_at
body_again (Request b) h = whole_again request 558 Request request_exact b h
body_again (Timed b) h = whole_again timed 578 Timed timed_exact b h
body_again (FastReply b) h = whole_again fast_reply 337 FastReply fast_reply_exact b h
body_again (SlowReply b) h = whole_again slow_reply 20 SlowReply slow_reply_exact b h
body_again (Answer b) h = whole_again client_answer 264 Answer client_answer_exact b h
body_again (LogMod b) h = whole_again log_mod 1078 LogMod log_mod_exact b h
body_again (Fetch b) h = whole_again fetch 521 Fetch fetch_exact b h
body_again (FetchReply b) h = whole_again fetch_reply longest_fetch_reply FetchReply fetch_reply_exact b h
body_again (SyncReport b) h = whole_again sync_report 12 SyncReport sync_report_exact b h
body_again (ViewAsk b) h = whole_again view_ask 8 ViewAsk view_ask_exact b h
body_again (ViewChange b) h = whole_again view_change longest_view_change ViewChange view_change_exact b h
body_again (StartView b) h = whole_again start_view longest_start_view StartView start_view_exact b h
body_again (VectorAsk b) h = whole_again vector_ask 8 VectorAsk vector_ask_exact b h
body_again (VectorTell b) h = whole_again vector_tell 45 VectorTell vector_tell_exact b h
body_again (RejoinAsk b) h = whole_again rejoin_ask 45 RejoinAsk rejoin_ask_exact b h
body_again (RejoinTell b) h = whole_again rejoin_tell 53 RejoinTell rejoin_tell_exact b h
body_again (StateAsk b) h = whole_again state_ask 53 StateAsk state_ask_exact b h
body_again (StateTell b) h = whole_again state_tell longest_state_tell StateTell state_tell_exact b h

by_test : (b : Bool) (kind k : ℕ) (bytes : List ℕ) (m : Message) (r s : Result Message ℕ) → (b ≡ true → kind ≡ k)
    → (r ≡ Ok m → IsBody k bytes m) → (s ≡ Ok m → IsBody kind bytes m) → cond b r s ≡ Ok m → IsBody kind bytes m
by_test true kind k bytes m r s same p q e = subst (λ (n : ℕ). IsBody n bytes m) (sym (same refl)) (p e)
by_test false kind k bytes m r s same p q e = q e

-- one kind, or one of those after it
by_kind : (kind k : ℕ) (bytes : List ℕ) (m : Message) (r s : Result Message ℕ) → (r ≡ Ok m → IsBody k bytes m)
    → (s ≡ Ok m → IsBody kind bytes m) → cond (eqb kind k) r s ≡ Ok m → IsBody kind bytes m
by_kind kind k bytes m r s p q e = by_test (eqb kind k) kind k bytes m r s (λ t. eqb-true kind k t) p q e

no_kind : (kind : ℕ) (bytes : List ℕ) (m : Message) → Err (length bytes) ≡ Ok m → IsBody kind bytes m
no_kind kind bytes m e = absurd cc

pub body_takes : (kind : ℕ) (bytes : List ℕ) (m : Message) → AreBytes bytes → body_at kind bytes ≡ Ok m → IsBody kind bytes m
unfolding body_at
body_takes kind bytes m fits =
    by_kind kind 1 bytes m _ _ (request_body bytes m fits) (
    by_kind kind 2 bytes m _ _ (timed_body bytes m fits) (
    by_kind kind 3 bytes m _ _ (fast_reply_body bytes m fits) (
    by_kind kind 4 bytes m _ _ (slow_reply_body bytes m fits) (
    by_kind kind 5 bytes m _ _ (client_answer_body bytes m fits) (
    by_kind kind 6 bytes m _ _ (log_mod_body bytes m fits) (
    by_kind kind 7 bytes m _ _ (fetch_body bytes m fits) (
    by_kind kind 8 bytes m _ _ (fetch_reply_body bytes m fits) (
    by_kind kind 9 bytes m _ _ (sync_report_body bytes m fits) (
    by_kind kind 10 bytes m _ _ (view_ask_body bytes m fits) (
    by_kind kind 11 bytes m _ _ (view_change_body bytes m fits) (
    by_kind kind 12 bytes m _ _ (start_view_body bytes m fits) (
    by_kind kind 13 bytes m _ _ (vector_ask_body bytes m fits) (
    by_kind kind 14 bytes m _ _ (vector_tell_body bytes m fits) (
    by_kind kind 15 bytes m _ _ (rejoin_ask_body bytes m fits) (
    by_kind kind 16 bytes m _ _ (rejoin_tell_body bytes m fits) (
    by_kind kind 17 bytes m _ _ (state_ask_body bytes m fits) (
    by_kind kind 18 bytes m _ _ (state_tell_body bytes m fits) (
    no_kind kind bytes m))))))))))))))))))

-- a body is short enough for a frame
pub body_long : (m : Message) → Fits m → length (body_of m) ≤ longest_view_change
body_long (Request b) h = let long = request_exact.long b [] h in omega arith
body_long (Timed b) h = let long = timed_exact.long b [] h in omega arith
body_long (FastReply b) h = let long = fast_reply_exact.long b [] h in omega arith
body_long (SlowReply b) h = let long = slow_reply_exact.long b [] h in omega arith
body_long (Answer b) h = let long = client_answer_exact.long b [] h in omega arith
body_long (LogMod b) h = let long = log_mod_exact.long b [] h in omega arith
body_long (Fetch b) h = let long = fetch_exact.long b [] h in omega arith
body_long (FetchReply b) h = let long = fetch_reply_exact.long b [] h in omega arith
body_long (SyncReport b) h = let long = sync_report_exact.long b [] h in omega arith
body_long (ViewAsk b) h = let long = view_ask_exact.long b [] h in omega arith
body_long (ViewChange b) h = let long = view_change_exact.long b [] h in omega arith
body_long (StartView b) h = let long = start_view_exact.long b [] h in omega arith
body_long (VectorAsk b) h = let long = vector_ask_exact.long b [] h in omega arith
body_long (VectorTell b) h = let long = vector_tell_exact.long b [] h in omega arith
body_long (RejoinAsk b) h = let long = rejoin_ask_exact.long b [] h in omega arith
body_long (RejoinTell b) h = let long = rejoin_tell_exact.long b [] h in omega arith
body_long (StateAsk b) h = let long = state_ask_exact.long b [] h in omega arith
body_long (StateTell b) h = let long = state_tell_exact.long b [] h in omega arith

left_after : {A : Type 0} (x : A × List ℕ) (b : Bool) (make : A → Message) (most left : ℕ) → length x.1 ≤ most
    → cond b (Ok (make x.0)) (Err (length x.1)) ≡ Err left → left ≤ most
left_after x true make most left h e = absurd cc
left_after x false make most left h e = let same : length x.1 ≡ left = cc in omega arith

left_within : {A : Type 0} (most : ℕ) (r : Result (A × List ℕ) ℕ) (make : A → Message) (left : ℕ) → IsWithin most r
    → (r >>= λ x. cond (eqb (length x.1) 0) (Ok (make x.0)) (Err (length x.1))) ≡ Err left → left ≤ most
left_within most (Ok x) make left h e = left_after x (eqb (length x.1) 0) make most left h e
left_within most (Err k) make left h e = let same : k ≡ left = cc in omega arith

-- what is left is part of the bytes
whole_within : {A : Type 0} (c : Codec A) (size : ℕ) (make : A → Message) → IsExact c size
    → (bytes : List ℕ) (left : ℕ) → whole c make bytes ≡ Err left → left ≤ length bytes
whole_within c size make p bytes left e = left_within (length bytes) (c.get bytes) make left (p.within bytes) e

left_by_test : (b : Bool) (r s : Result Message ℕ) (most left : ℕ) → (r ≡ Err left → left ≤ most)
    → (s ≡ Err left → left ≤ most) → cond b r s ≡ Err left → left ≤ most
left_by_test true r s most left p q e = p e
left_by_test false r s most left p q e = q e

all_left : (most left : ℕ) (r : Result Message ℕ) → r ≡ Err most → r ≡ Err left → left ≤ most
all_left most left r p e = let same : most ≡ left = cc in omega arith

pub body_within : (kind : ℕ) (bytes : List ℕ) (left : ℕ) → body_at kind bytes ≡ Err left → left ≤ length bytes
unfolding body_at
body_within kind bytes left =
    left_by_test (eqb kind 1) _ _ (length bytes) left (whole_within request 558 Request request_exact bytes left) (
    left_by_test (eqb kind 2) _ _ (length bytes) left (whole_within timed 578 Timed timed_exact bytes left) (
    left_by_test (eqb kind 3) _ _ (length bytes) left (whole_within fast_reply 337 FastReply fast_reply_exact bytes left) (
    left_by_test (eqb kind 4) _ _ (length bytes) left (whole_within slow_reply 20 SlowReply slow_reply_exact bytes left) (
    left_by_test (eqb kind 5) _ _ (length bytes) left (whole_within client_answer 264 Answer client_answer_exact bytes left) (
    left_by_test (eqb kind 6) _ _ (length bytes) left (whole_within log_mod 1078 LogMod log_mod_exact bytes left) (
    left_by_test (eqb kind 7) _ _ (length bytes) left (whole_within fetch 521 Fetch fetch_exact bytes left) (
    left_by_test (eqb kind 8) _ _ (length bytes) left (whole_within fetch_reply longest_fetch_reply FetchReply fetch_reply_exact bytes left) (
    left_by_test (eqb kind 9) _ _ (length bytes) left (whole_within sync_report 12 SyncReport sync_report_exact bytes left) (
    left_by_test (eqb kind 10) _ _ (length bytes) left (whole_within view_ask 8 ViewAsk view_ask_exact bytes left) (
    left_by_test (eqb kind 11) _ _ (length bytes) left (whole_within view_change longest_view_change ViewChange view_change_exact bytes left) (
    left_by_test (eqb kind 12) _ _ (length bytes) left (whole_within start_view longest_start_view StartView start_view_exact bytes left) (
    left_by_test (eqb kind 13) _ _ (length bytes) left (whole_within vector_ask 8 VectorAsk vector_ask_exact bytes left) (
    left_by_test (eqb kind 14) _ _ (length bytes) left (whole_within vector_tell 45 VectorTell vector_tell_exact bytes left) (
    left_by_test (eqb kind 15) _ _ (length bytes) left (whole_within rejoin_ask 45 RejoinAsk rejoin_ask_exact bytes left) (
    left_by_test (eqb kind 16) _ _ (length bytes) left (whole_within rejoin_tell 53 RejoinTell rejoin_tell_exact bytes left) (
    left_by_test (eqb kind 17) _ _ (length bytes) left (whole_within state_ask 53 StateAsk state_ask_exact bytes left) (
    left_by_test (eqb kind 18) _ _ (length bytes) left (whole_within state_tell longest_state_tell StateTell state_tell_exact bytes left) (
    all_left (length bytes) left _ refl))))))))))))))))))

pub body_spelled : (kind : ℕ) (bytes : List ℕ) (m : Message) → IsBody kind bytes m → body_at kind bytes ≡ Ok m
body_spelled kind bytes m h =
    subst (λ (k : ℕ). body_at k bytes ≡ Ok m) h.same_kind (ap (body_at (kind_of m)) h.spelled ∙ body_again m h.fit)
