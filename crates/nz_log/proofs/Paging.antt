-- Entries in pages, and the places in them.
use Rattle.std.proofs.Common.{◌≡◌, ℕ, zero, suc, ◌+◌, ◌-◌, ◌*◌, ◌/◌, ◌%◌, ◌<◌, ◌≤◌, List, [], ◌∷◌, ◌++◌, length, take, get_or, set}
use Rattle.std.proofs.Common.{refl, sym, ap, subst, ◌∙◌, arith, append-nil, length-append}
use Rattle.std.specs.List.{AllByRecursion, flat_map}
use Rattle.std.proofs.lemmas.List.{get_or_append_left, get_or-append-add, set-append_left, set-append_right, flat_map_more, nil_from_length}
use Rattle.std.proofs.Math.Nat.{mod-lt}
use Rattle.nz_base.specs.declared.key.Entry.{Entry}
use Rattle.nz_log.specs.Paging.{ArePages}

module _ {P : Type 0} (f : P → List Entry) where
  joined_length : (ps : List P) → AllByRecursion (λ p. length (f p) ≡ 256) ps → length (flat_map f ps) ≡ 256 * length ps
  joined_length [] all = refl
  joined_length (p ∷ ps) all =
      let rest = joined_length ps all.1 in
      let here = all.0 in
      let long : length (f p ++ flat_map f ps) ≡ length (f p) + length (flat_map f ps) = length-append (f p) (flat_map f ps) in
      omega (arith, rest, here, long)

  joined_at : (ps : List P) (page i : ℕ) (e : P) (d : Entry) → AllByRecursion (λ p. length (f p) ≡ 256) ps → page < length ps → i < 256
      → get_or (flat_map f ps) (256 * page + i) d ≡ get_or (f (get_or ps page e)) i d
  joined_at [] page i e d all within small = absurd (omega arith)
  joined_at (p ∷ ps) zero i e d all within small =
      let first : 256 * 0 + i ≡ i = omega arith in
      ap (λ (n : ℕ). get_or (f p ++ flat_map f ps) n d) first
      ∙ get_or_append_left (f p) (flat_map f ps) d i (subst (λ (n : ℕ). i < n) (sym all.0) small)
  joined_at (p ∷ ps) (suc page) i e d all within small =
      let here : length (f p) ≡ 256 = all.0 in
      let far : 256 * suc page + i ≡ length (f p) + (256 * page + i) = omega (arith, here) in
      ap (λ (n : ℕ). get_or (f p ++ flat_map f ps) n d) far
      ∙ get_or-append-add (f p) (flat_map f ps) (256 * page + i) d
      ∙ joined_at ps page i e d all.1 (omega arith) small

  -- a page is no longer than what is left of all entries
  pages_before : (ps : List P) (page : ℕ) → AllByRecursion (λ p. length (f p) ≡ 256) ps → page ≤ length ps → length (flat_map f (take page ps)) ≡ 256 * page
  pages_before ps zero all within = refl
  pages_before [] (suc page) all within = absurd (omega arith)
  pages_before (p ∷ ps) (suc page) all within =
      let rest = pages_before ps page all.1 (omega arith) in
      let here : length (f p) ≡ 256 = all.0 in
      let long = length-append (f p) (flat_map f (take page ps)) in
      omega (arith, rest, here, long)

  full_page : (ps : List P) (page : ℕ) (d : P) → AllByRecursion (λ p. length (f p) ≡ 256) ps → page < length ps → length (f (get_or ps page d)) ≡ 256
  full_page [] page d all within = absurd (omega arith)
  full_page (p ∷ ps) zero d all within = all.0
  full_page (p ∷ ps) (suc page) d all within = full_page ps page d all.1 (omega arith)

  pub page_fits : (ps : List P) (last : List Entry) (page count : ℕ) (p : P) → ArePages f ps last count → page < length ps → p ≡ get_or ps page p
      → length (flat_map f (take page ps)) + length (f p) ≤ count
  page_fits ps last page count p pages within is =
      let before = pages_before ps page pages.each (omega (arith, within)) in
      let here : length (f p) ≡ 256 = ap (λ (q : P). length (f q)) is ∙ full_page ps page p pages.each within in
      let counted = pages.counted in
      omega (arith, within, before, here, counted)

  parts_of_place : (place : ℕ) → place ≡ 256 * (place / 256) + place % 256
  parts_of_place place = omega arith

  small_part : (place : ℕ) → place % 256 < 256
  small_part place = mod-lt place (omega arith)

  -- the entry at a place, in a full page and in the last one
  pub in_full : (ps : List P) (last : List Entry) (place : ℕ) (e : P) (d : Entry) → AllByRecursion (λ p. length (f p) ≡ 256) ps → place / 256 < length ps
      → get_or (flat_map f ps ++ last) place d ≡ get_or (f (get_or ps (place / 256) e)) (place % 256) d
  in_full ps last place e d all within =
      let long = joined_length ps all in
      let is = parts_of_place place in
      let small = small_part place in
      get_or_append_left (flat_map f ps) last d place (omega (arith, long, is, small, within))
      ∙ ap (λ (n : ℕ). get_or (flat_map f ps) n d) is
      ∙ joined_at ps (place / 256) (place % 256) e d all within small

  place_in_last : (ps : List P) (last : List Entry) (place count : ℕ)
      → ArePages f ps last count → length ps ≤ place / 256 → place < length (flat_map f ps ++ last)
      → place ≡ length (flat_map f ps) + place % 256
  place_in_last ps last place count pages above within =
      let long = joined_length ps pages.each in
      let whole : length (flat_map f ps ++ last) ≡ length (flat_map f ps) + length last = length-append (flat_map f ps) last in
      let room : length last < 256 = pages.room in
      let is = parts_of_place place in
      let small = small_part place in
      omega (arith, long, whole, room, is, small, above, within)

  pub last_within : (ps : List P) (last : List Entry) (place count : ℕ)
      → ArePages f ps last count → length ps ≤ place / 256 → place < length (flat_map f ps ++ last)
      → place % 256 < length last
  last_within ps last place count pages above within =
      let whole : length (flat_map f ps ++ last) ≡ length (flat_map f ps) + length last = length-append (flat_map f ps) last in
      let far = place_in_last ps last place count pages above within in
      omega (arith, far, whole, within)

  pub in_last : (ps : List P) (last : List Entry) (place count : ℕ) (d : Entry)
      → ArePages f ps last count → length ps ≤ place / 256 → place < length (flat_map f ps ++ last)
      → get_or (flat_map f ps ++ last) place d ≡ get_or last (place % 256) d
  in_last ps last place count d pages above within =
      ap (λ (n : ℕ). get_or (flat_map f ps ++ last) n d) (place_in_last ps last place count pages above within)
      ∙ get_or-append-add (flat_map f ps) last (place % 256) d

  pub whole_length : (ps : List P) (last : List Entry) (count : ℕ) → ArePages f ps last count → count ≡ length (flat_map f ps ++ last)
  whole_length ps last count pages =
      let is = pages.counted in
      let long = joined_length ps pages.each in
      let whole : length (flat_map f ps ++ last) ≡ length (flat_map f ps) + length last = length-append (flat_map f ps) last in
      omega (arith, is, long, whole)

  -- one entry is put in the place of another
  joined_set : (ps : List P) (page i : ℕ) (q d : P) (e : Entry) → AllByRecursion (λ p. length (f p) ≡ 256) ps → page < length ps → i < 256
      → f q ≡ set (f (get_or ps page d)) i e → flat_map f (set ps page q) ≡ set (flat_map f ps) (256 * page + i) e
  joined_set [] page i q d e all within small is = absurd (omega arith)
  joined_set (p ∷ ps) zero i q d e all within small is =
      let first : i ≡ 256 * 0 + i = omega arith in
      ap (λ (xs : List Entry). xs ++ flat_map f ps) is
      ∙ sym (set-append_left (f p) (flat_map f ps) i e (subst (λ (n : ℕ). i < n) (sym all.0) small))
      ∙ ap (λ (n : ℕ). set (f p ++ flat_map f ps) n e) first
  joined_set (p ∷ ps) (suc page) i q d e all within small is =
      let far : 256 * page + i ≡ (256 * suc page + i) - 256 = omega arith in
      let high : 256 ≤ 256 * suc page + i = omega arith in
      ap (λ (xs : List Entry). f p ++ xs) (joined_set ps page i q d e all.1 (omega arith) small is)
      ∙ ap (λ (n : ℕ). f p ++ set (flat_map f ps) n e) far
      ∙ sym (set-append_right (f p) (flat_map f ps) 256 (256 * suc page + i) e all.0 high)

  pub set_in_full : (ps : List P) (last : List Entry) (place : ℕ) (q d : P) (e : Entry) → AllByRecursion (λ p. length (f p) ≡ 256) ps → place / 256 < length ps
      → f q ≡ set (f (get_or ps (place / 256) d)) (place % 256) e → flat_map f (set ps (place / 256) q) ++ last ≡ set (flat_map f ps ++ last) place e
  set_in_full ps last place q d e all within is =
      let long = joined_length ps all in
      let parts = parts_of_place place in
      let small = small_part place in
      ap (λ (xs : List Entry). xs ++ last) (joined_set ps (place / 256) (place % 256) q d e all within small is)
      ∙ ap (λ (n : ℕ). set (flat_map f ps) n e ++ last) (sym parts)
      ∙ sym (set-append_left (flat_map f ps) last place e (omega (arith, long, parts, small, within)))

  pub set_in_last : (ps : List P) (last : List Entry) (place count : ℕ) (e : Entry)
      → ArePages f ps last count → length ps ≤ place / 256 → place < length (flat_map f ps ++ last)
      → flat_map f ps ++ set last (place % 256) e ≡ set (flat_map f ps ++ last) place e
  set_in_last ps last place count e pages above within =
      let far = place_in_last ps last place count pages above within in
      let rest : place % 256 ≡ place - length (flat_map f ps) = omega (arith, far) in
      ap (λ (n : ℕ). flat_map f ps ++ set last n e) rest
      ∙ sym (set-append_right (flat_map f ps) last (length (flat_map f ps)) place e refl (omega (arith, far)))

-- all but the last entry
pub last_out : (before last : List Entry) → 0 < length last → before ++ take (length last - 1) last ≡ take (length (before ++ last) - 1) (before ++ last)
last_out [] last some = refl
last_out (e ∷ before) last some =
    let long : length (before ++ last) ≡ length before + length last = length-append before last in
    let next : suc (length (before ++ last) - 1) ≡ suc (length (before ++ last)) - 1 = omega (arith, long, some) in
    ap (λ (xs : List Entry). e ∷ xs) (last_out before last some) ∙ ap (λ (n : ℕ). take n (e ∷ before ++ last)) next

-- the last of the full pages
each_last : {P : Type 0} (f : P → List Entry) (ps : List P) (p : P) → AllByRecursion (λ p. length (f p) ≡ 256) (ps ++ p ∷ []) → length (f p) ≡ 256
each_last f [] p all = all.0
each_last f (q ∷ ps) p all = each_last f ps p all.1

-- all but the last entry, where it is the last of a full page
pub page_out : {P : Type 0} (f : P → List Entry) (ps all : List P) (p : P) (last : List Entry)
    → all ≡ ps ++ p ∷ [] → AllByRecursion (λ p. length (f p) ≡ 256) all → length last ≡ 0
    → flat_map f ps ++ take 255 (f p) ≡ take (length (flat_map f all ++ last) - 1) (flat_map f all ++ last)
page_out {P} f ps all p last is each none =
    let full : length (f p) ≡ 256 = each_last f ps p (subst (AllByRecursion (λ (q : P). length (f q) ≡ 256)) is each) in
    let end : 255 ≡ length (f p) - 1 = omega (arith, full) in
    let empty : last ≡ [] = nil_from_length last none in
    let whole : flat_map f all ++ last ≡ flat_map f ps ++ f p =
    ap (λ (xs : List Entry). flat_map f all ++ xs) empty ∙ append-nil (flat_map f all) ∙ ap (flat_map f) is ∙ sym (flat_map_more f [] ps p) in
    ap (λ (n : ℕ). flat_map f ps ++ take n (f p)) end
    ∙ last_out (flat_map f ps) (f p) (omega (arith, full))
    ∙ ap (λ (xs : List Entry). take (length xs - 1) xs) (sym whole)
