-- Each event that winds up brings home one nearer, and none is left at home alone.
use Rattle.duo_machine.proofs.EachWay.{way_leads_home}
use Rattle.duo_machine.proofs.moves.every_way_leads_home.Goals as goal

pub returns : goal.returns
returns c = way_leads_home
