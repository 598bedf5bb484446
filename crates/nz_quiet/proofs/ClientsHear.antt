-- A client of a quiet run in a tick: its clock repeats no request, and exactly the open requests that are answered leave.
use Rattle.std.proofs.Common.{◌≡◌, ℕ, zero, suc, ◌+◌, ◌-◌, ◌%◌, ◌<◌, ◌≤◌, Bool, true, false, cond, eqb, ltb, min, List, [], ◌∷◌, ◌++◌, length, map}
use Rattle.std.proofs.Common.{refl, sym, ap, subst, ◌∙◌, inl, inr, arith, append_assoc}
use Rattle.std.specs.Prelude.{slice_get}
use Rattle.std.specs.List.{AllByRecursion}
use Rattle.std.proofs.lemmas.Bool.{cases_Bool, eqb-true, lt-ltb}
use Rattle.std.proofs.lemmas.Bool.Decides.{nat_tests}
use Rattle.std.proofs.lemmas.List.{append-nil}
use Rattle.nz_base.specs.declared.actor.Actor.TheVariants.{Proxy, Client}
use Rattle.nz_base.specs.declared.key.Id.{Id}
use Rattle.nz_base.specs.declared.scenario.Request.{Request}
use Rattle.nz_msg.specs.declared.message.AnswerBody.{AnswerBody}
use Rattle.nz_msg.specs.declared.message.Path.{Path}
use Rattle.nz_msg.specs.declared.message.Path.TheVariants as paths
use Rattle.nz_msg.specs.declared.message.Message.TheVariants as messages
use Rattle.nz_machine.specs.declared.data.Attempt.{Attempt}
use Rattle.nz_machine.specs.rules.State.{ClientData, Group, Out}
use Rattle.nz_machine.specs.rules.Clients.{last_tick, fill_window, is_overdue, attempt_after_wait, retry, request_again, retries, after_wait, wait_rule}
use Rattle.nz_machine.specs.rules.Clients.{is_open, without_attempt, after_acceptance, accept_rule}
use Rattle.nz_machine.specs.declared.client_event.ClientEvent.{ClientEvent}
use Rattle.nz_machine.specs.declared.client_event.ClientEvent.TheVariants.{Sent, Accepted}
use Rattle.nz_machine.specs.runs.Events.{id_at, accepted_in, sent_after, sent_by}
use Rattle.nz_machine.specs.rules.Step.{script_of, tick_step, message_step}
use Rattle.nz_machine.specs.runs.World.{Has}
use Rattle.nz_machine.proofs.runs.Runs.{has_left, has_right, has_split}
use Rattle.nz_machine.proofs.lists.EachItem.{all_imply}
use Rattle.nz_machine.proofs.journals.InTurn.{none_without}
use Rattle.nz_quiet.specs.Words.{Word}
use Rattle.nz_quiet.specs.Folds.{state_heard, outs_heard}
use Rattle.nz_quiet.specs.ClientTicks.{MayAnswer, ComesAnswer, seen_heard, one_older, new_attempt, IsOpenAfter, OpenBefore, OpenNow}
use Rattle.nz_quiet.specs.ClientTicks.{AreYoung, IsNewRequest, Asks, AreSentWithin, IsClientAfter}
use Rattle.nz_quiet.proofs.Elements.{has_mapped}
use Rattle.nz_quiet.proofs.ClientsLists.{open_has, others_left, left_others}
use Rattle.nz_quiet.proofs.ClientsOpen.{window_opens, window_accepts, window_sends}

-- ---- what is seen

-- new requests are seen with their numbers
sent_within : (c : ℕ) (script : List Request) (num more : ℕ) → AreSentWithin c num (num + more) (sent_after c script num more)
sent_within c script num zero id command has = absurd has
sent_within c script num (suc more) id command (inl same) =
    let is : id_at c (num + 1) ≡ id = cc in
    let own : num + 1 ≡ id.num = ap (λ (x : Id). x.num) is in
    (sym is ∙ ap (id_at c) own, omega (arith, own), omega (arith, own))
sent_within c script num (suc more) id command (inr has) =
    let k = sent_within c script (num + 1) more id command has in
    let low = k.1 in
    let high = k.2 in
    (k.0, omega (arith, low), omega (arith, high))

module _ (g : Group) (c : ℕ) (s : ClientData) where
  -- with the new requests of an event
  sent_seen : (ws : List Word) (t v : ClientData) (outs : List Out) (seen : List ClientEvent) → s.sent ≤ t.sent → t.sent ≤ v.sent
      → IsClientAfter g c s ws v outs seen → IsClientAfter g c s ws v outs (seen ++ sent_by c (script_of g c) t v)
  sent_seen ws t v outs seen first le h =
      let new = sent_by c (script_of g c) t v in
      record {
        ticks = h.ticks;
        more = h.more;
        few = h.few;
        open_after = h.open_after;
        each = λ a has. elim (h.each a has) [
          | inl still ↦ inl still
          | inr k ↦ inr (record {
            proxy = k.proxy;
            body = k.body;
            among = k.among;
            of_it = k.of_it;
            accepted = has_left seen new (Accepted (id_at c a.num) k.body.answer paths.Fast) k.accepted;
          })
        ];
        new = h.new;
        sends = h.sends;
        sent = λ id command has. elim (has_split seen new (Sent id command) has) [
          | inl old ↦ h.sent id command old
          | inr now ↦
              let k = sent_within c (script_of g c) t.sent (v.sent - t.sent) id command now in
              let low = k.1 in
              let high = k.2 in
              (k.0, omega (arith, first, low), omega (arith, le, high))
        ];
      }

  -- ---- the clock

  not_overdue : (a : Attempt) → a.since ≤ 13 → is_overdue a ≡ false
  not_overdue a few = grind (arith, nat_tests, few)

  all_older : (xs : List Attempt) → AllByRecursion (λ (a : Attempt). a.since ≤ 13) xs → map (attempt_after_wait g.proxies) xs ≡ map one_older xs
  all_older [] few = refl
  all_older (a ∷ xs) few =
      let one : attempt_after_wait g.proxies a ≡ one_older a =
      ap (λ (b : Bool). cond b (record { num = a.num; proxy = (a.proxy + 1) % g.proxies; since = 0 }) (one_older a)) (not_overdue a few.0) in
      ap (λ (x : Attempt). x ∷ map (attempt_after_wait g.proxies) xs) one ∙ ap (λ (xs : List Attempt). one_older a ∷ xs) (all_older xs few.1)

  none_again : (xs : List Attempt) → AllByRecursion (λ (a : Attempt). a.since ≤ 13) xs → retries g.proxies (script_of g c) xs ≡ []
  none_again [] few = refl
  none_again (a ∷ xs) few =
      let again = request_again ((a.proxy + 1) % g.proxies) a.num (slice_get (script_of g c) (a.num - 1)) in
      let one : retry g.proxies (script_of g c) a ≡ [] = ap (λ (b : Bool). cond b again []) (not_overdue a few.0) in
      ap (λ (os : List Out). os ++ retries g.proxies (script_of g c) xs) one ∙ none_again xs few.1

  -- a tick more, with the same requests
  abbrev waited : ClientData
  waited = record s { ticks = s.ticks + 1; attempts = map one_older s.attempts }

  wait_is : s.ticks < last_tick → AreYoung s → after_wait g.proxies s ≡ waited
  wait_is low few =
      let ticks : min (s.ticks + 1) last_tick ≡ s.ticks + 1 = omega (arith, low) in
      let attempts = all_older s.attempts few in
      λ i. record s { ticks = ticks i; attempts = attempts i }

  waited_after : s.sent ≤ length (script_of g c) → IsClientAfter g c s [] waited [] []
  waited_after few = record {
    ticks = refl;
    more = omega arith;
    few = few;
    open_after = older s.attempts (λ a has. has);
    each = λ a has. inl (has_mapped one_older s.attempts a has);
    new = λ num above most. absurd (omega (arith, above, most));
    sends = tt;
    sent = λ id command has. absurd has;
  }
    where
      older : (xs : List Attempt) → ((a : Attempt) → Has xs a → Has s.attempts a)
          → AllByRecursion (IsOpenAfter g c s [] waited []) (map one_older xs)
      older [] among = tt
      older (a ∷ xs) among = (OpenBefore a (among a (inl refl)) (λ h. h.among), older xs (λ b has. among b (inr has)))

  ticked : (clock : ℕ) → s.ticks < last_tick → AreYoung s → s.sent ≤ length (script_of g c)
      → let t = tick_step g (Client c) s clock in IsClientAfter g c s [] t.0 t.1 (sent_by c (script_of g c) s t.0)
  unfolding wait_rule
  ticked clock low young few =
      let script = script_of g c in
      let u = after_wait g.proxies s in
      let v = fill_window g.window g.proxies c script u in
      let start = subst (λ (x : ClientData). IsClientAfter g c s [] x [] []) (sym (wait_is low young)) (waited_after few) in
      let filled = window_opens g c s [] u [] [] start in
      let none = none_again s.attempts young in
      let sends : v.1 ≡ retries g.proxies script s.attempts ++ v.1 = ap (λ (os : List Out). os ++ v.1) (sym none) in
      sent_seen [] s v.0 (retries g.proxies script s.attempts ++ v.1) [] (omega arith) (window_sends g.window g.proxies c script u)
      (subst (λ (os : List Out). IsClientAfter g c s [] v.0 os []) sends filled)

  -- ---- an answer

  -- without the answered request, which was accepted if it was open
  answered : (ws : List Word) (t : ClientData) (outs : List Out) (seen more : List ClientEvent) (k p : ℕ) (b : AnswerBody) → b.num ≤ s.sent
      → (is_open b.num t.attempts ≡ true → Has more (Accepted (id_at c b.num) b.answer paths.Fast))
      → ((id : Id) (command : List ℕ) → Has more (Sent id command) → ⊥) → IsClientAfter g c s ws t outs seen
      → IsClientAfter g c s (ws ++ (Proxy p, messages.Answer b) ∷ [])
      (record t { accepted = k; attempts = without_attempt b.num t.attempts }) outs (seen ++ more)
  answered ws t outs seen more k p b before accepts silent h =
      let w : Word = (Proxy p, messages.Answer b) in
      let u : ClientData = record t { accepted = k; attempts = without_attempt b.num t.attempts } in
      let newer : (num : ℕ) → s.sent < num → eqb num b.num ≡ false = λ num above. grind (arith, nat_tests, before, above) in
      record {
        ticks = h.ticks;
        more = h.more;
        few = h.few;
        open_after = left_others (IsOpenAfter g c s ws t outs) (IsOpenAfter g c s (ws ++ w ∷ []) u outs) b.num t.attempts h.open_after
            (λ a open_then other. still_open ws t outs k p b a other open_then);
        each = λ a has. elim (h.each a has) [
          | inl still ↦ elim (cases_Bool (eqb a.num b.num)) [
            | inl own ↦
                let same = eqb-true a.num b.num own in
                let seen_now = accepts (open_has b.num t.attempts (one_older a) still same) in
                inr (record {
                  proxy = p;
                  body = b;
                  among = has_right ws (w ∷ []) w (inl refl);
                  of_it = sym same;
                  accepted = subst (λ (num : ℕ). Has (seen ++ more) (Accepted (id_at c num) b.answer paths.Fast)) (sym same)
                      (has_right seen more (Accepted (id_at c b.num) b.answer paths.Fast) seen_now);
                })
            | inr other ↦ inl (others_left b.num t.attempts (one_older a) still other)
          ]
          | inr gone ↦ inr (record {
            proxy = gone.proxy;
            body = gone.body;
            among = has_left ws (w ∷ []) (Proxy gone.proxy, messages.Answer gone.body) gone.among;
            of_it = gone.of_it;
            accepted = has_left seen more (Accepted (id_at c a.num) gone.body.answer paths.Fast) gone.accepted;
          })
        ];
        new = λ num above most. others_left b.num t.attempts (new_attempt g c num) (h.new num above most) (newer num above);
        sends = all_imply (IsNewRequest g c s t) (IsNewRequest g c s u) (λ o asks. still_new t k b before o asks) outs h.sends;
        sent = λ id command has. elim (has_split seen more (Sent id command) has) [
          | inl old ↦ h.sent id command old
          | inr now ↦ absurd (silent id command now)
        ];
      }
    where
      still_open : (ws : List Word) (t : ClientData) (outs : List Out) (k p : ℕ) (b : AnswerBody) (a : Attempt) → eqb a.num b.num ≡ false
          → IsOpenAfter g c s ws t outs a
          → IsOpenAfter g c s (ws ++ (Proxy p, messages.Answer b) ∷ []) (record t { accepted = k; attempts = without_attempt b.num t.attempts }) outs a
      still_open ws t outs k p b _ other (OpenBefore a has open_still) = OpenBefore a has (λ h.
          elim (has_split ws ((Proxy p, messages.Answer b) ∷ []) (Proxy h.proxy, messages.Answer h.body) h.among) [
            | inl old ↦ open_still (record { proxy = h.proxy; body = h.body; among = old; of_it = h.of_it })
            | inr new ↦ elim new [
              | inl same ↦
                  let message : messages.Answer b ≡ messages.Answer h.body = ap (λ (x : Word). x.1) same in
                  let body : b ≡ h.body = cc in
                  let num : a.num ≡ b.num = sym (ap (λ (x : AnswerBody). x.num) body ∙ h.of_it) in
                  let own : eqb a.num b.num ≡ true = grind (arith, nat_tests, num) in
                  cc
              | inr never ↦ never
            ]
          ])
      still_open ws t outs k p b _ other (OpenNow num above most sent) = OpenNow num above most sent

      still_new : (t : ClientData) (k : ℕ) (b : AnswerBody) → b.num ≤ s.sent → (o : Out) → IsNewRequest g c s t o
          → IsNewRequest g c s (record t { accepted = k; attempts = without_attempt b.num t.attempts }) o
      still_new t k b before _ (Asks num above most has) =
          let other : eqb num b.num ≡ false = grind (arith, nat_tests, before, above) in
          Asks num above most (others_left b.num t.attempts (new_attempt g c num) has other)

  -- an answer that was accepted is seen, and no request with it
  accepted_seen : (t v : ClientData) (b : AnswerBody) → b.path ≡ paths.Fast → v.accepted ≡ t.accepted + 1
      → accepted_in c t v (messages.Answer b) ≡ Accepted (id_at c b.num) b.answer paths.Fast ∷ []
  accepted_seen t v b fast is =
      let more : ltb t.accepted v.accepted ≡ true = lt-ltb t.accepted v.accepted (omega (arith, is)) in
      ap (λ (x : Bool). cond x (Accepted (id_at c b.num) b.answer b.path ∷ []) []) more
      ∙ ap (λ (q : Path). Accepted (id_at c b.num) b.answer q ∷ []) fast

  acceptance_silent : (b : AnswerBody) (id : Id) (command : List ℕ) → Has (Accepted (id_at c b.num) b.answer paths.Fast ∷ []) (Sent id command) → ⊥
  acceptance_silent b id command (inl same) = cc
  acceptance_silent b id command (inr never) = never

  -- a client after one answer more
  abbrev Next : List Word → ClientData → List Out → List ClientEvent → Word → ClientData × List Out → Type 0
  Next ws t outs seen w v =
      IsClientAfter g c s (ws ++ w ∷ []) v.0 (outs ++ v.1) (seen ++ (accepted_in c t v.0 w.1 ++ sent_by c (script_of g c) t v.0))

  -- an answer to an open request
  accepted_step : (ws : List Word) (t : ClientData) (outs : List Out) (seen : List ClientEvent) (p : ℕ) (b : AnswerBody) → b.path ≡ paths.Fast
      → b.num ≤ s.sent → IsClientAfter g c s ws t outs seen
      → Next ws t outs seen (Proxy p, messages.Answer b) (fill_window g.window g.proxies c (script_of g c) (after_acceptance b.num t))
  accepted_step ws t outs seen p b fast before h =
      let w : Word = (Proxy p, messages.Answer b) in
      let script = script_of g c in
      let u = after_acceptance b.num t in
      let v = fill_window g.window g.proxies c script u in
      let acceptance = Accepted (id_at c b.num) b.answer paths.Fast ∷ [] in
      let seen_is = accepted_seen t v.0 b fast (window_accepts g.window g.proxies c script u) in
      let first = h.more in
      let now = answered ws t outs seen acceptance (t.accepted + 1) p b before (λ _. inl refl) (acceptance_silent b) h in
      let filled = window_opens g c s (ws ++ w ∷ []) u outs (seen ++ acceptance) now in
      let whole = sent_seen (ws ++ w ∷ []) t v.0 (outs ++ v.1) (seen ++ acceptance) first (window_sends g.window g.proxies c script u) filled in
      let sents = sent_by c script t v.0 in
      subst (λ (es : List ClientEvent). IsClientAfter g c s (ws ++ w ∷ []) v.0 (outs ++ v.1) (seen ++ (es ++ sents))) (sym seen_is)
      (subst (IsClientAfter g c s (ws ++ w ∷ []) v.0 (outs ++ v.1)) (append_assoc seen acceptance sents) whole)

  -- an answer to another
  other_step : (ws : List Word) (t : ClientData) (outs : List Out) (seen : List ClientEvent) (p : ℕ) (b : AnswerBody) → b.num ≤ s.sent
      → is_open b.num t.attempts ≡ false → IsClientAfter g c s ws t outs seen → Next ws t outs seen (Proxy p, messages.Answer b) (t, [])
  other_step ws t outs seen p b before closed h =
      let w : Word = (Proxy p, messages.Answer b) in
      let script = script_of g c in
      let no_more : ltb t.accepted t.accepted ≡ false = grind (arith, nat_tests) in
      let none_accepted : accepted_in c t t (messages.Answer b) ≡ [] =
      ap (λ (x : Bool). cond x (Accepted (id_at c b.num) b.answer b.path ∷ []) []) no_more in
      let not_open : is_open b.num t.attempts ≡ true → Has [] (Accepted (id_at c b.num) b.answer paths.Fast) = λ yes. absurd cc in
      let first = h.more in
      let now = answered ws t outs seen [] t.accepted p b before not_open (λ id command has. has) h in
      let attempts = none_without b.num t.attempts closed in
      let same : record t { accepted = t.accepted; attempts = without_attempt b.num t.attempts } ≡ t = λ i. record t { attempts = attempts i } in
      let there = subst (λ (x : ClientData). IsClientAfter g c s (ws ++ w ∷ []) x outs (seen ++ [])) same now in
      let whole = sent_seen (ws ++ w ∷ []) t t outs (seen ++ []) first (omega arith) there in
      let sents = sent_by c script t t in
      let joined = subst (IsClientAfter g c s (ws ++ w ∷ []) t outs) (append_assoc seen [] sents) whole in
      subst (λ (es : List ClientEvent). IsClientAfter g c s (ws ++ w ∷ []) t (outs ++ []) (seen ++ (es ++ sents))) (sym none_accepted)
      (subst (λ (os : List Out). IsClientAfter g c s (ws ++ w ∷ []) t os (seen ++ sents)) (sym (append-nil outs)) joined)

  word_step : (ws : List Word) (t : ClientData) (outs : List Out) (seen : List ClientEvent) (w : Word) → MayAnswer s w → IsClientAfter g c s ws t outs seen
      → Next ws t outs seen w (message_step g (Client c) t w.0 w.1)
  unfolding accept_rule
  word_step ws t outs seen _ (ComesAnswer p b fast before) h = elim (cases_Bool (is_open b.num t.attempts)) [
    | inl held ↦
        let v = fill_window g.window g.proxies c (script_of g c) (after_acceptance b.num t) in
        subst (Next ws t outs seen (Proxy p, messages.Answer b)) (sym (ap (λ (x : Bool). cond x v (t, [])) held))
        (accepted_step ws t outs seen p b fast before h)
    | inr closed ↦
        let v = fill_window g.window g.proxies c (script_of g c) (after_acceptance b.num t) in
        subst (Next ws t outs seen (Proxy p, messages.Answer b)) (sym (ap (λ (x : Bool). cond x v (t, [])) closed))
        (other_step ws t outs seen p b before closed h)
  ]

  -- ---- all answers

  all_heard : (ws vs : List Word) (t : ClientData) (outs : List Out) (seen : List ClientEvent) → AllByRecursion (MayAnswer s) vs
      → IsClientAfter g c s ws t outs seen
      → IsClientAfter g c s (ws ++ vs) (state_heard g (Client c) t vs) (outs ++ outs_heard g (Client c) t vs) (seen ++ seen_heard g c t vs)
  unfolding state_heard outs_heard seen_heard
  all_heard ws [] t outs seen may h =
      subst (λ (xs : List Word). IsClientAfter g c s xs t (outs ++ []) (seen ++ [])) (sym (append-nil ws))
      (subst (λ (os : List Out). IsClientAfter g c s ws t os (seen ++ [])) (sym (append-nil outs))
      (subst (IsClientAfter g c s ws t outs) (sym (append-nil seen)) h))
  all_heard ws (w ∷ vs) t outs seen may h =
      let v = message_step g (Client c) t w.0 w.1 in
      let events = accepted_in c t v.0 w.1 ++ sent_by c (script_of g c) t v.0 in
      let now = word_step ws t outs seen w may.0 h in
      let rest = all_heard (ws ++ w ∷ []) vs v.0 (outs ++ v.1) (seen ++ events) may.1 now in
      let last = state_heard g (Client c) v.0 vs in
      let more = outs_heard g (Client c) v.0 vs in
      let later = seen_heard g c v.0 vs in
      subst (λ (xs : List Word). IsClientAfter g c s xs last (outs ++ (v.1 ++ more)) (seen ++ (events ++ later))) (append_assoc ws (w ∷ []) vs)
      (subst (λ (os : List Out). IsClientAfter g c s ((ws ++ w ∷ []) ++ vs) last os (seen ++ (events ++ later))) (append_assoc outs v.1 more)
      (subst (IsClientAfter g c s ((ws ++ w ∷ []) ++ vs) last ((outs ++ v.1) ++ more)) (append_assoc seen events later) rest))

  pub client_tick_here : (clock : ℕ) (ws : List Word) → s.ticks < last_tick → AreYoung s
      → s.sent ≤ length (script_of g c) → AllByRecursion (MayAnswer s) ws
      → let t = tick_step g (Client c) s clock in
      IsClientAfter g c s ws (state_heard g (Client c) t.0 ws) (t.1 ++ outs_heard g (Client c) t.0 ws)
      (sent_by c (script_of g c) s t.0 ++ seen_heard g c t.0 ws)
  client_tick_here clock ws low young few may =
      let t = tick_step g (Client c) s clock in
      all_heard [] ws t.0 t.1 (sent_by c (script_of g c) s t.0) may (ticked clock low young few)

pub client_tick : (g : Group) (c : ℕ) (s : ClientData) (clock : ℕ) (ws : List Word) → s.ticks < last_tick
    → AreYoung s → s.sent ≤ length (script_of g c) → AllByRecursion (MayAnswer s) ws
    → let t = tick_step g (Client c) s clock in
    IsClientAfter g c s ws (state_heard g (Client c) t.0 ws) (t.1 ++ outs_heard g (Client c) t.0 ws)
    (sent_by c (script_of g c) s t.0 ++ seen_heard g c t.0 ws)
client_tick g c s clock ws low young few may = client_tick_here g c s clock ws low young few may
