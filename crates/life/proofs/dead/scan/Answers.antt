-- `life::dead::scan` meets its contract. Assumes nothing.
use borrow.Author.Rules.{rules}
use Rattle.life.proofs.Scanning.{scan-dead, scan-live, scan-returns, scan_open}
use Rattle.life.proofs.dead.scan.Goals as goal

pub returns-in-Dead : goal.returns-in-Dead
returns-in-Dead c = search (rules, scan-dead, scan-live, scan-returns, scan_open)

pub returns-in-Live : goal.returns-in-Live
returns-in-Live c = search (rules, scan-dead, scan-live, scan-returns, scan_open)

pub returns-in-Open : goal.returns-in-Open
returns-in-Open c = search (rules, scan-dead, scan-live, scan-returns, scan_open)

pub returns-in-Open-2 : goal.returns-in-Open-2
returns-in-Open-2 c = search (rules, scan-dead, scan-live, scan-returns, scan_open)
