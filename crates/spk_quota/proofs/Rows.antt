-- The rules at worked lists of calls, with figures worked out by hand, named by what they show. Two users: 0 may hold 2 connections, 1 kept session, 2 filters,
-- 2 retained messages and 100 bytes; 1 may hold 3, 3, 3, 3 and 1000. Client identifiers, topics and filters are of one byte.
use Rattle.std.proofs.Common.{◌≡◌, ℕ, true, false, List, [], ◌∷◌, Some, None, refl}
use Rattle.std.specs.List.{fold}
use Rattle.spk_quota.specs.Calls.{Call, Clear, Connect, DiscardWill, Ended, Forget, Publish, Resume, Subscribe, Unsubscribe, step}
use Rattle.spk_quota.specs.Data.{QuotaData, fresh}
use Rattle.spk_quota.specs.Held.{held}
use Rattle.spk_quota.specs.Step.{lets_in, lets_retain, lets_subscribe, long_away}
use Rattle.spk_quota.specs.declared.limits.Limits.{Limits}

abbrev limits : List Limits
limits =
    record { connections = 2; sessions = 1; filters = 2; retained = 2; bytes = 100; waiting = 0 }
    ∷ record { connections = 3; sessions = 3; filters = 3; retained = 3; bytes = 1000; waiting = 0 }
    ∷ []

abbrev behind : List Call → QuotaData
behind calls = fold step (fresh limits) calls

-- what a user holds behind some calls, as kept sessions, filters, retained messages and bytes
abbrev figures : List Call → ℕ → ℕ × ℕ × ℕ × ℕ
figures calls user = let h = held (behind calls) user in (h.sessions, h.filters, h.retained, h.bytes)

-- how many of its clients are connected
abbrev connections : List Call → ℕ → ℕ
connections calls user = (held (behind calls) user).connections

abbrev a : List ℕ
a = 97 ∷ []

abbrev b : List ℕ
b = 98 ∷ []

abbrev c : List ℕ
c = 99 ∷ []

-- ---- connections

last_connection_may_be : lets_in (behind (Connect 0 7 a true None ∷ [])) 0 8 b true None ≡ true
last_connection_may_be = refl

one_connection_too_many : lets_in (behind (Connect 0 7 a true None ∷ Connect 0 8 b true None ∷ [])) 0 9 c true None ≡ false
one_connection_too_many = refl

refused_connection_does_not_count : connections (Connect 0 7 a true None ∷ Connect 0 8 b true None ∷ Connect 0 9 c true None ∷ []) 0 ≡ 2
refused_connection_does_not_count = refl

takeover_at_the_limit_is_let_in : lets_in (behind (Connect 0 7 a false None ∷ Connect 0 8 b true None ∷ [])) 0 9 a false None ≡ true
takeover_at_the_limit_is_let_in = refl

takeover_counts_once : connections (Connect 0 7 a false None ∷ Connect 0 8 b true None ∷ Connect 0 9 a false None ∷ []) 0 ≡ 2
takeover_counts_once = refl

clean_takeover_at_the_limit_is_let_in : lets_in (behind (Connect 0 7 a true None ∷ Connect 0 8 b true None ∷ [])) 0 9 a true None ≡ true
clean_takeover_at_the_limit_is_let_in = refl

ended_connection_may_be_had_again : lets_in (behind (Connect 0 7 a false None ∷ Connect 0 8 b true None ∷ Ended 7 a 50 ∷ [])) 0 9 c true None ≡ true
ended_connection_may_be_had_again = refl

connection_that_was_taken_over_ends_nothing : connections (Connect 0 7 a false None ∷ Connect 0 8 a false None ∷ Ended 7 a 50 ∷ []) 0 ≡ 1
connection_that_was_taken_over_ends_nothing = refl

resumed_session_has_none : connections (Resume 0 a [] 10 ∷ []) 0 ≡ 0
resumed_session_has_none = refl

another_users_connection_goes_on : connections (Connect 0 7 a false None ∷ Connect 1 7 a false None ∷ Ended 7 a 50 ∷ []) 1 ≡ 1
another_users_connection_goes_on = refl

-- ---- sessions

kept_session_counts : figures (Connect 0 7 a false None ∷ []) 0 ≡ (1, 0, 0, 0)
kept_session_counts = refl

clean_session_does_not : figures (Connect 0 7 a true None ∷ []) 0 ≡ (0, 0, 0, 0)
clean_session_does_not = refl

second_kept_session_is_refused : lets_in (behind (Connect 0 7 a false None ∷ [])) 0 8 b false None ≡ false
second_kept_session_is_refused = refl

refused_connect_changes_nothing : figures (Connect 0 7 a false None ∷ Connect 0 8 b false None ∷ []) 0 ≡ (1, 0, 0, 0)
refused_connect_changes_nothing = refl

another_users_is_not : figures (Connect 0 7 a false None ∷ Connect 1 8 b false None ∷ []) 1 ≡ (1, 0, 0, 0)
another_users_is_not = refl

kept_session_goes_on_with_its_filters : figures (Connect 0 7 a false None ∷ Subscribe a (b ∷ c ∷ []) ∷ Ended 7 a 50 ∷ Connect 0 8 a false None ∷ []) 0 ≡ (1, 2, 0, 0)
kept_session_goes_on_with_its_filters = refl

clean_connect_takes_them_away : figures (Connect 0 7 a false None ∷ Subscribe a (b ∷ c ∷ []) ∷ Connect 0 8 a true None ∷ []) 0 ≡ (0, 0, 0, 0)
clean_connect_takes_them_away = refl

older_connection_ends_nothing : figures (Connect 0 7 a false None ∷ Connect 0 8 a true None ∷ Subscribe a (b ∷ []) ∷ Ended 7 a 50 ∷ []) 0 ≡ (0, 1, 0, 0)
older_connection_ends_nothing = refl

session_that_is_not_kept_ends : figures (Connect 0 7 a true None ∷ Subscribe a (b ∷ []) ∷ Ended 7 a 50 ∷ []) 0 ≡ (0, 0, 0, 0)
session_that_is_not_kept_ends = refl

unknown_user_is_refused : lets_in (behind []) 2 7 a true None ≡ false
unknown_user_is_refused = refl

-- ---- filters

third_filter_is_refused : lets_subscribe (behind (Connect 0 7 a true None ∷ [])) a (a ∷ b ∷ a ∷ c ∷ []) ≡ false
third_filter_is_refused = refl

refused_subscribe_changes_nothing : figures (Connect 0 7 a true None ∷ Subscribe a (a ∷ b ∷ a ∷ c ∷ []) ∷ []) 0 ≡ (0, 0, 0, 0)
refused_subscribe_changes_nothing = refl

filter_that_stands_counts_once : figures (Connect 0 7 a true None ∷ Subscribe a (a ∷ []) ∷ Subscribe a (a ∷ b ∷ a ∷ []) ∷ []) 0 ≡ (0, 2, 0, 0)
filter_that_stands_counts_once = refl

filters_of_all_sessions_count : figures (Connect 0 7 a true None ∷ Connect 0 8 b true None ∷ Subscribe a (a ∷ []) ∷ Subscribe b (a ∷ []) ∷ []) 0 ≡ (0, 2, 0, 0)
filters_of_all_sessions_count = refl

room_is_given_back : figures (Connect 0 7 a true None ∷ Subscribe a (a ∷ b ∷ []) ∷ Unsubscribe a (c ∷ a ∷ []) ∷ []) 0 ≡ (0, 1, 0, 0)
room_is_given_back = refl

client_without_a_session : lets_subscribe (behind []) a (a ∷ b ∷ []) ≡ false
client_without_a_session = refl

-- ---- retained messages and wills

last_byte_fits : lets_retain (behind (Publish 0 a 60 ∷ [])) 0 b 40 ≡ true
last_byte_fits = refl

one_byte_too_many : lets_retain (behind (Publish 0 a 60 ∷ [])) 0 b 41 ≡ false
one_byte_too_many = refl

replaced_message_gives_its_bytes_back : figures (Publish 0 a 60 ∷ Publish 0 b 40 ∷ Publish 0 a 50 ∷ []) 0 ≡ (0, 0, 2, 90)
replaced_message_gives_its_bytes_back = refl

third_message_is_refused : lets_retain (behind (Publish 0 a 1 ∷ Publish 0 b 1 ∷ [])) 0 c 1 ≡ false
third_message_is_refused = refl

will_counts : figures (Connect 0 7 a true (Some (b, 30)) ∷ []) 0 ≡ (0, 0, 1, 30)
will_counts = refl

will_and_message_count_apart : figures (Publish 0 b 20 ∷ Connect 0 7 a true (Some (b, 30)) ∷ []) 0 ≡ (0, 0, 2, 50)
will_and_message_count_apart = refl

will_becomes_the_message : figures (Publish 0 b 20 ∷ Connect 0 7 a true (Some (b, 30)) ∷ Ended 7 a 50 ∷ []) 0 ≡ (0, 0, 1, 30)
will_becomes_the_message = refl

greater_message_stays : figures (Publish 0 b 40 ∷ Connect 0 7 a true (Some (b, 30)) ∷ Ended 7 a 50 ∷ []) 0 ≡ (0, 0, 1, 40)
greater_message_stays = refl

will_is_discarded : figures (Connect 0 7 a true (Some (b, 30)) ∷ DiscardWill 7 ∷ Ended 7 a 50 ∷ []) 0 ≡ (0, 0, 0, 0)
will_is_discarded = refl

clear_takes_everybodys_message : figures (Publish 0 a 10 ∷ Publish 1 a 20 ∷ Publish 1 b 30 ∷ Clear a ∷ []) 1 ≡ (0, 0, 1, 30)
clear_takes_everybodys_message = refl

clear_leaves_a_will : figures (Connect 0 7 a true (Some (b, 30)) ∷ Clear b ∷ []) 0 ≡ (0, 0, 1, 30)
clear_leaves_a_will = refl

-- ---- the start, and those who stay away

resumed_counts_beyond_the_limits : figures (Resume 0 a (a ∷ b ∷ a ∷ c ∷ []) 10 ∷ Resume 0 b (a ∷ []) 20 ∷ []) 0 ≡ (2, 4, 0, 0)
resumed_counts_beyond_the_limits = refl

beyond_the_limits_nothing_comes_to_it : lets_in (behind (Resume 0 a [] 10 ∷ Resume 0 b [] 20 ∷ [])) 0 7 c false None ≡ false
beyond_the_limits_nothing_comes_to_it = refl

beyond_the_limits_what_stands_goes_on : lets_in (behind (Resume 0 a [] 10 ∷ Resume 0 b [] 20 ∷ [])) 0 7 a false None ≡ true
beyond_the_limits_what_stands_goes_on = refl

away_long_enough : long_away (behind (Resume 1 a [] 10 ∷ Resume 1 b [] 5 ∷ [])) 35 30 ≡ Some b
away_long_enough = refl

who_is_here_is_not_away : long_away (behind (Resume 1 a [] 10 ∷ Connect 1 7 a false None ∷ [])) 1000 30 ≡ None
who_is_here_is_not_away = refl

who_left_is_away_since : long_away (behind (Connect 1 7 a false None ∷ Ended 7 a 50 ∷ [])) 79 30 ≡ None
who_left_is_away_since = refl

forgotten_holds_nothing : figures (Resume 0 a (b ∷ []) 10 ∷ Forget a ∷ []) 0 ≡ (0, 0, 0, 0)
forgotten_holds_nothing = refl

who_is_here_is_not_forgotten : figures (Connect 0 7 a false None ∷ Forget a ∷ []) 0 ≡ (1, 0, 0, 0)
who_is_here_is_not_forgotten = refl
