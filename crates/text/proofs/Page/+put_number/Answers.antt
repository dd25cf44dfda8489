-- `Page::put_number` meets its contract.
use Rattle.text.proofs.Decimals.{small_printed, more_printed}
use Rattle.text.proofs.Page.+put_number.Goals as goal
use Rattle.text.proofs.Page.+put_number.Goals.{then-n-ge10, else-n-ge10}

pub returns : goal.returns
returns t c =
    elim c.if-n-ge10.branch [
      | then-n-ge10 w ↦ more_printed w.if-n-ge10.true w.put_number.ensures (rw w.self-is at c.put_byte.ensures)
      | else-n-ge10 w ↦ small_printed w.if-n-ge10.false (rw w.self-is at c.put_byte.ensures)
    ]
