use Rattle.objects.proofs.Writings.{one_object}
use Rattle.objects.proofs.laws.one_object.Goals as goal

pub returns : goal.returns
returns c = one_object
