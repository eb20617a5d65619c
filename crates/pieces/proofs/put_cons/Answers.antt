-- `pieces::put_cons` meets its contract. Assumes nothing.
use Rattle.writing.proofs.Stores.{puts_then}
use Rattle.pieces.proofs.put_cons.Goals as goal

pub returns-clause-put : goal.returns-clause-put
returns-clause-put c =
    rw (c.boundary.ensures, c.boundary-2.ensures, c.cons.ensures) at
    (puts_then c.put.ensures (puts_then c.lead.ensures.put (puts_then c.extend.ensures (puts_then c.lead_two.ensures.put c.extend-2.ensures))))
