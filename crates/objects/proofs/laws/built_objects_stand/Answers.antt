use Rattle.objects.proofs.Built.{building}
use Rattle.objects.proofs.laws.built_objects_stand.Goals as goal

pub returns : goal.returns
returns c = building
