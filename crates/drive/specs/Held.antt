-- What the drives in memory mean.
use Rattle.std.specs.Prelude.{vec_items}
use Rattle.drive.specs.Views.{DriveView, settled}
use Rattle.drive.specs.declared.memory.buffered.BufferedDrive.{BufferedDrive}
use Rattle.drive.specs.declared.memory.direct.DirectDrive.{DirectDrive}

-- A buffered drive has its current and its safe slots side by side.
abbrev pub buffered : BufferedDrive → DriveView
buffered d = record { current = vec_items d.current.slots; safe = vec_items d.safe.slots }

-- The slots of a direct drive are all safe.
abbrev pub direct : DirectDrive → DriveView
direct d = settled (vec_items d.slots.slots)
