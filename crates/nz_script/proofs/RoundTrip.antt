-- The text of a valid scenario is read as that scenario.
use Rattle.std.proofs.Common.{◌≡◌, ℕ, ◌+◌, ◌<◌, ◌≤◌, Bool, true, false, cond, List, [], ◌∷◌, ◌++◌, Ok, refl, sym, ap, subst, ◌∙◌, arith, length, map, take_all}
use Rattle.std.specs.Prelude.{◌&&◌, nat_le, nat_lt}
use Rattle.std.specs.List.{list_all}
use Rattle.std.proofs.lemmas.Bool.{eqb-true, and_parts, leb-true}
use Rattle.nz_base.specs.declared.scenario.Scenario.{Scenario}
use Rattle.nz_script.specs.declared.line_forms.Place.TheVariants as place
use Rattle.nz_script.specs.declared.line_forms.Verb.TheVariants as verb
use Rattle.nz_script.specs.declared.draft.Draft.{Draft}
use Rattle.nz_script.specs.Bytes.{lines_in, tail_in}
use Rattle.nz_script.specs.Shapes.{place_rank}
use Rattle.nz_script.specs.Lines.{a_line}
use Rattle.nz_script.specs.Drafts.{first_draft, scenario_of, has_room_for_requests, has_room_for_faults}
use Rattle.nz_script.specs.Reading.{scenario_from, scenario}
use Rattle.nz_script.specs.Texts.{version_of, head_lines, skew_line, scripts_lines, fault_line, lines_of, text_of_lines, text_of}
use Rattle.nz_script.specs.Valid.{group_of_scenario, is_sound, has_group, has_skews, are_apart, are_requests}
use Rattle.nz_script.specs.Valid.{requests_in_all, has_few, has_faults, is_short, is_valid, IsValid}
use Rattle.nz_script.proofs.ReadAgain.{lines_again, tail_again, reading_again}
use Rattle.nz_script.proofs.Sections.{a_draft, no_fault, group_parts, group_small, head_taken, skews_taken, IsTakenTo, then_taken}
use Rattle.nz_script.proofs.Blocks.{closed, other_count, same_count, scripts_taken}
use Rattle.nz_script.proofs.Mishaps.{mishaps, faults_taken}

-- the parts of the test
record IsValidIn (s : Scenario) : Type 0 where
  group : has_group s ≡ true
  skews : has_skews s ≡ true
  requests : list_all are_requests s.scripts ≡ true
  few : has_few s ≡ true
  faults : has_faults s ≡ true
  short : is_short s ≡ true

valid_parts : (s : Scenario) → is_valid s ≡ true → IsValidIn s
valid_parts s e =
    let p = and_parts ((has_group s && has_skews s) && (list_all are_requests s.scripts && has_few s)) (has_faults s && is_short s) e in
    let q = and_parts (has_group s && has_skews s) (list_all are_requests s.scripts && has_few s) p.0 in
    let x = and_parts (has_group s) (has_skews s) q.0 in
    let y = and_parts (list_all are_requests s.scripts) (has_few s) q.1 in
    let z = and_parts (has_faults s) (is_short s) p.1 in
    record { group = x.0; skews = x.1; requests = y.0; few = y.1; faults = z.0; short = z.1 }

-- all that was read of a scenario
abbrev whole : Scenario → Draft
whole s = a_draft place.Ended (version_of s.window) (group_of_scenario s) s.ticks s.skews s.scripts [] 0 (requests_in_all s.scripts) s.faults

lines_taken : (s : Scenario) → IsValidIn s → IsTakenTo first_draft (lines_of s) (whole s)
lines_taken s ok =
    let v = version_of s.window in
    let g = group_of_scenario s in
    let h = group_parts s ok.group in
    let small = group_small s h in
    let r = requests_in_all s.scripts in
    let k = and_parts (list_all (λ k. is_sound (group_of_scenario s) (skew_line k)) s.skews) (are_apart s.skews) ok.skews in
    let f = and_parts (has_room_for_requests r s.ticks) (has_room_for_faults r (length s.faults)) ok.few in
    let some : 0 < s.clients = omega (arith, leb-true 1 s.clients (and_parts (nat_le 1 s.clients) (nat_le s.clients 64) h.clients).0) in
    let scripts : length s.scripts ≡ s.clients = eqb-true (length s.scripts) s.clients h.scripts in
    let first : a_draft place.Between v g s.ticks s.skews [] [] 0 0 [] ≡ closed v g s.ticks s.skews 0 [] 0
    = sym (ap (λ (b : Bool). a_draft (cond b place.Mishaps place.Between) v g s.ticks s.skews [] [] 0 0 []) (other_count 0 s.clients some)) in
    let none : 0 + r ≡ r = omega arith in
    let last : closed v g s.ticks s.skews s.clients s.scripts (0 + r) ≡ mishaps v g s.ticks s.skews s.scripts r []
    =
    ap (λ (n : ℕ). closed v g s.ticks s.skews s.clients s.scripts n) none
    ∙ ap (λ (b : Bool). a_draft (cond b place.Mishaps place.Between) v g s.ticks s.skews s.scripts [] 0 r []) (same_count s.clients) in
    let blocks =
    scripts_taken v g s.ticks s.skews [] s.scripts 0 small (omega (arith, scripts)) ok.requests
    (ap (λ (n : ℕ). has_room_for_requests n s.ticks) none ∙ f.0) in
    let heads = head_taken s h in
    let skews = skews_taken v g s.ticks [] s.skews small k.0 k.1 in
    let bodies : IsTakenTo (a_draft place.Between v g s.ticks s.skews [] [] 0 0 []) (scripts_lines 0 s.scripts) (mishaps v g s.ticks s.skews s.scripts r [])
    = subst (λ (d : Draft). IsTakenTo d (scripts_lines 0 s.scripts) (mishaps v g s.ticks s.skews s.scripts r [])) (sym first)
    (subst (λ (d : Draft). IsTakenTo (closed v g s.ticks s.skews 0 [] 0) (scripts_lines 0 s.scripts) d) last blocks) in
    let all : 0 + length s.faults ≡ length s.faults = omega arith in
    let faults = faults_taken v g s.ticks s.skews s.scripts r [] s.faults small ok.faults (ap (has_room_for_faults r) all ∙ f.1) in
    let done : IsTakenTo (mishaps v g s.ticks s.skews s.scripts r s.faults) (a_line verb.Done [] ∷ []) (whole s)
    = record { taken = (tt, no_fault (mishaps v g s.ticks s.skews s.scripts r s.faults) (a_line verb.Done []) refl refl refl refl, tt); after = refl } in
    then_taken first_draft (a_draft place.Between v g s.ticks [] [] [] 0 0 []) (whole s) (head_lines s)
    (map skew_line s.skews ++ (scripts_lines 0 s.scripts ++ (map fault_line s.faults ++ a_line verb.Done [] ∷ []))) heads
    (then_taken (a_draft place.Between v g s.ticks [] [] [] 0 0 [])
    (a_draft place.Between v g s.ticks s.skews [] [] 0 0 []) (whole s) (map skew_line s.skews)
    (scripts_lines 0 s.scripts ++ (map fault_line s.faults ++ a_line verb.Done [] ∷ [])) skews
    (then_taken (a_draft place.Between v g s.ticks s.skews [] [] 0 0 []) (mishaps v g s.ticks s.skews s.scripts r [])
    (whole s) (scripts_lines 0 s.scripts) (map fault_line s.faults ++ a_line verb.Done [] ∷ []) bodies
    (then_taken (mishaps v g s.ticks s.skews s.scripts r []) (mishaps v g s.ticks s.skews s.scripts r s.faults)
    (whole s) (map fault_line s.faults) (a_line verb.Done [] ∷ []) faults done)))

not_longer : (n m : ℕ) → n ≤ m → nat_lt m n ≡ false
not_longer n m h = grind (arith, h)

pub read_back : (s : Scenario) → IsValid s → scenario (text_of s) ≡ Ok s
unfolding scenario text_of
read_back s e =
    let v = valid_parts s e in
    let t = lines_taken s v in
    let text = text_of_lines (lines_of s) in
    let short : length text ≤ 1048576 = leb-true (length text) 1048576 v.short in
    ap (λ (x : List ℕ). scenario_from (nat_lt 1048576 (length text)) (tail_in x) 1 first_draft (lines_in x)) (take_all 1048576 text short)
    ∙ ap (λ (b : Bool). scenario_from b (tail_in text) 1 first_draft (lines_in text)) (not_longer (length text) 1048576 short)
    ∙ ap (λ (x : List ℕ). scenario_from false x 1 first_draft (lines_in text)) (tail_again (lines_of s))
    ∙ ap (λ (ls : List (List ℕ)). scenario_from false [] 1 first_draft ls) (lines_again first_draft (lines_of s) t.taken)
    ∙ reading_again 1 first_draft (lines_of s) t.taken (ap (λ (d : Draft). place_rank d.place) t.after)
    ∙ ap (λ (d : Draft). Ok (scenario_of d)) t.after
