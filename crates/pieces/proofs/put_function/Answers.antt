-- `pieces::put_function` meets its contract. Assumes nothing.
use Rattle.writing.proofs.Stores.{puts_then}
use Rattle.pieces.proofs.put_function.Goals as goal

pub returns-clause-put : goal.returns-clause-put
returns-clause-put c =
    let a = c.put_lambda.ensures.put in
    let b = c.lead.ensures.put in
    let d = c.lead-2.ensures.put in
    let e = c.lead-3.ensures.put in
    simp (
      c.boundary.ensures,
      c.application.ensures,
      c.other.ensures,
      c.boundary-2.ensures,
      c.other-2.ensures,
      c.variable.ensures,
    )
    at (puts_then a (puts_then b (puts_then d (puts_then e c.put.ensures))))
