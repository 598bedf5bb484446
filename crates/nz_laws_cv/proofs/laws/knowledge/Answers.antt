-- What the function of this folder owes, proved.
use Rattle.nz_laws_cv.proofs.Showing.{shows}
use Rattle.nz_laws_cv.proofs.Known.{knowledge_at, known_since}
use Rattle.nz_laws_cv.proofs.laws.knowledge.Goals as goal

pub returns-clause-rejoins : goal.returns-clause-rejoins
returns-clause-rejoins c = λ g J w. knowledge_at g J w (shows g J w)

pub returns-clause-since : goal.returns-clause-since
returns-clause-since c = λ g J w. known_since g J w
