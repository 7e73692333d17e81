use Rattle.std.proofs.Common.{sym}
use Rattle.awd_session.proofs.Taken.{header_now}
use Rattle.awd_session.proofs.session.Session.cell.Goals as goal

pub returns : goal.returns
returns g c =
    let s = c.args.self.now in
    let header = c.in_ok-header.header in
    let (long, now, below, flags-is) =
    header_now s header c.in_ok-header.was in
    rw (sym c.in_ok-block.ensures, sym flags-is) c.matrix_cell.ensures
