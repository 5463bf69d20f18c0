use Rattle.objects.proofs.Built.{one_map}
use Rattle.objects.proofs.laws.one_map.Goals as goal

pub returns : goal.returns
returns c = one_map
