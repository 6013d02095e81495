-- Worked rows: which transactions of a log are listed, and their sums.
use Rattle.std.proofs.Common.{◌≡◌, true, false, Some, None, refl}
use Rattle.ctl_views.specs.declared.ends.End.TheVariants as ends
use Rattle.ctl_views.specs.declared.sums.Sum.{Sum}
use Rattle.ctl_views.specs.declared.choosing.Topic.TheVariants as topics
use Rattle.ctl_views.specs.Choices.{is_failed, is_of_remote, is_server, is_shown}
use Rattle.ctl_views.specs.History.{is_listed, is_lost, is_remote, is_since, lost_of, most, octets_of, with_end}

-- nothing is asked
all_listed : is_listed None None false None None ends.Lost ≡ true
all_listed = refl

-- the moment itself is listed, and the one before it isn't
at_the_moment : is_since (Some 5) (Some 5) ≡ true
at_the_moment = refl

before_the_moment : is_since (Some 5) (Some 4) ≡ false
before_the_moment = refl

without_a_moment : is_since (Some 5) None ≡ false
without_a_moment = refl

another_remote : is_listed None (Some 7) false None (Some 8) ends.Lost ≡ false
another_remote = refl

this_remote : is_remote (Some 7) (Some 7) ≡ true
this_remote = refl

no_peer : is_remote (Some 7) None ≡ false
no_peer = refl

-- only failed ones are asked
failed : is_listed None None true None None ends.Lost ≡ true
failed = refl

kept : is_listed None None true None None ends.Kept ≡ false
kept = refl

unreported : is_lost ends.Unreported ≡ false
unreported = refl

-- the sums before
abbrev some_sum : Sum
some_sum = record { ended = 3; lost = 1; octets = 10 }

-- a kept file counts with its octets, a lost one without
one_kept : with_end ends.Kept 5 some_sum ≡ record { ended = 4; lost = 1; octets = 15 }
one_kept = refl

one_unreported : with_end ends.Unreported 5 some_sum ≡ record { ended = 4; lost = 1; octets = 15 }
one_unreported = refl

one_lost : with_end ends.Lost 5 some_sum ≡ record { ended = 4; lost = 2; octets = 10 }
one_lost = refl

-- a full sum stays
full : with_end ends.Kept 5 (record { ended = most; lost = most; octets = most })
    ≡ record { ended = most; lost = most; octets = most }
full = refl

-- the entity's line is always shown
server : is_shown (Some 7) true topics.Server None ≡ true
server = refl

-- only failed ones are asked
going : is_shown None true topics.Going (Some 7) ≡ false
going = refl

other : is_shown None true topics.Other None ≡ false
other = refl

failed_there : is_shown (Some 7) true (topics.Ended ends.Lost) (Some 7) ≡ true
failed_there = refl

kept_there : is_shown (Some 7) true (topics.Ended ends.Kept) (Some 7) ≡ false
kept_there = refl

-- only one remote entity is asked
failed_elsewhere : is_shown (Some 7) false (topics.Ended ends.Lost) (Some 8) ≡ false
failed_elsewhere = refl

about_nobody : is_of_remote (Some 7) None ≡ true
about_nobody = refl
