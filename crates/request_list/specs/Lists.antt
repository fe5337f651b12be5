-- What list answers and writes.
use Rattle.std.specs.Prelude.{ℕ, zero, suc, ◌-◌, cond, List, [], ◌∷◌, ◌++◌, length, map, drop, replicate, Some, None, Ok, Err, Option, Result, nat_lt}
use Rattle.fields.specs.declared.refusal.Refusal.{Refusal}
use Rattle.fields.specs.declared.refusal.Refusal.TheVariants.{TooLittleRoom}
use Rattle.fields.specs.Values.{Identity}
use Rattle.requests.specs.declared.records.Request.{Request}
use Rattle.requests.specs.Least.{smallest_of}
use Rattle.requests.specs.Records.{is_listed}
use Rattle.request_list.specs.declared.entries.ListedRequest.{ListedRequest}

-- the caller's listed request of smallest number above the last
abbrev pub listed_after : List Request → Identity → ℕ → Option Request
listed_after rs n last = smallest_of (is_listed n last) rs

-- a request, if there is one, and those that follow it
abbrev pub followed : Option Request → (Request → List Request) → List Request
followed None more = []
followed (Some r) more = r ∷ more r

-- so many of smallest number above the last, by number
abbrev pub first_listed : ℕ → List Request → Identity → ℕ → List Request
first_listed zero rs n last = []
first_listed (suc k) rs n last = followed (listed_after rs n last) (λ r. first_listed k rs n r.number)

unfoldable pub five_of : List Request → Identity → List Request
five_of rs n = first_listed 5 rs n 0

abbrev pub entry_of : Request → ListedRequest
entry_of r = record { number = r.number; identifier = r.key.identifier.bits; called = r.key.called.bits }

-- a place is zero where no request is left for it
abbrev pub no_entry : ListedRequest
no_entry = record { number = 0; identifier = 0; called = 0 }

-- five entries, those of the requests and none after them
abbrev pub entries_of : List Request → List ListedRequest
entries_of rs = map entry_of rs ++ replicate (5 - length rs) no_entry

-- how many entries were written, and the supplied places after the call
abbrev pub Listed : Type 0
Listed = Result ℕ Refusal × List ListedRequest

-- the first five places are written, those after them are as found
abbrev pub listed : List Request → Identity → List ListedRequest → Listed
listed rs n places =
    cond (nat_lt (length places) 5) (Err TooLittleRoom, places)
    (Ok (length (five_of rs n)), entries_of (five_of rs n) ++ drop 5 places)
