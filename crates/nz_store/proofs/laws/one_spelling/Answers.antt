-- What the function of this folder owes, proved.
use Rattle.std.proofs.Common.{refl, sym, ◌∙◌}
use Rattle.nz_store.proofs.Fields.{some_is}
use Rattle.nz_store.proofs.Spellings.{spells_from_reading, reading_from_spells}
use Rattle.nz_store.proofs.laws.one_spelling.Goals as goal

pub returns-clause-read : goal.returns-clause-read
returns-clause-read c = λ bytes command. (spells_from_reading bytes command, reading_from_spells bytes command)

pub returns-clause-back : goal.returns-clause-back
returns-clause-back c = λ command h. reading_from_spells _ command (record { valid = h; whole = refl })

pub returns-clause-bytes : goal.returns-clause-bytes
returns-clause-bytes c = λ command bytes others p q. p.whole ∙ sym q.whole

pub returns-clause-command : goal.returns-clause-command
returns-clause-command c = λ one other bytes p q. some_is one other (sym (reading_from_spells bytes one p) ∙ reading_from_spells bytes other q)
