-- One step of a loop over a list, and what loops over reports keep.
use Rattle.std.proofs.Common.{◌≡◌, ℕ, suc, ◌+◌, ◌<◌, Bool, ◌&&◌, eqb, List, ◌∷◌, length, get_or, drop, sym, ap, ◌∙◌, add-one, drop-cons, Option, Some, None}
use Rattle.nz_base.specs.declared.key.Key.{Key}
use Rattle.nz_base.specs.Log.{keys_of, has_key}
use Rattle.nz_merge.specs.Merged.{lower}
use Rattle.nz_merge.specs.declared.report.Report.{Report}

pub next_item : {X : Type 0} (xs : List X) (i : ℕ) (x : X) → i < length xs → x ≡ get_or xs i x → drop i xs ≡ x ∷ drop (i + 1) xs
next_item {X} xs i x lt is = rw add-one (drop-cons xs i x lt ∙ ap (λ (y : X). y ∷ drop (suc i) xs) (sym is))

-- whether the report is of the view and holds the key
abbrev pub counts : ℕ → Key → Report → Bool
counts view key c = eqb c.last view && has_key (keys_of c.log) key

-- ---- the lowest sender so far

-- the lowest of what was gone through, and of what is left
abbrev pub joined : Option Report → Option Report → Option Report
joined None rest = rest
joined (Some b) rest = Some (lower b rest)
