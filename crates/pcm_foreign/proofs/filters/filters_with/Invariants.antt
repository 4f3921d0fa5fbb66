use Rattle.std.proofs.Common.{◌≡◌, take, map}
use Rattle.pcm_foreign.specs.Filters.{filter_from}
use Rattle.pcm_foreign.proofs.filters.filters_with.Given as goal

abbrev pub invariant-loop-filter : goal.invariant-loop-filter
invariant-loop-filter l = l.list.items ≡ map (filter_from l.coefs) (take l.filter-index l.filters)
