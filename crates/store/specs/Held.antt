-- What a store over any space means.
use Rattle.std.specs.Prelude.{vec_items}
use Rattle.store.specs.declared.directory.objects.ObjectStore.{ObjectStore}
use Rattle.store.specs.Views.{StoreView}
use Rattle.store.specs.Items.{view}
use Rattle.store.specs.Entries.{items}

-- What the store holds: its entries' objects lie one after another in the bytes of its space.
abbrev pub held : {D : _} {m : _} → ObjectStore D m → StoreView
held {m = m} s = view m.weight (m.capacity s.space) (items m.room (vec_items s.directory.entries) (m.bytes s.space))
