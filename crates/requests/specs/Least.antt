-- The request of smallest number.
use Rattle.std.specs.Prelude.{Bool, List, filter, Option}
use Rattle.std.specs.List.{reduce}
use Rattle.std.specs.Ordering.{nat_cmp, min_by_ordering}
use Rattle.requests.specs.declared.records.Request.{Request}

-- that of the smaller number, the first where they are equal
abbrev pub smaller : Request → Request → Request
smaller q r = min_by_ordering (nat_cmp q.number r.number) q r

-- the request of smallest number among those that pass
abbrev pub smallest_of : (Request → Bool) → List Request → Option Request
smallest_of p rs = reduce smaller (filter p rs)
