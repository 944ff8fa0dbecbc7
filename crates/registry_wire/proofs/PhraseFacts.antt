-- No phrase of a status is long.
use Rattle.std.proofs.Common.{◌≤◌, ◌==◌, ℕ, List, [], length, Bool, true, false, cond, Option, lit≤}
use Rattle.std.specs.Prelude.{unwrap_or}
use Rattle.http.specs.StatusCode.{reason_phrase}

record IsShort (phrase : Option (List ℕ)) : Type 0 where
  pub len : length (unwrap_or phrase []) ≤ 40

short : {phrase : Option (List ℕ)} → length (unwrap_or phrase []) ≤ 40 → IsShort phrase
short few = record { len = few }

either : {x y : Option (List ℕ)} (b : Bool) → IsShort x → IsShort y → IsShort (cond b x y)
either true first second = first
either false first second = second

-- the statuses in the order in which the phrases are listed
phrases : (n : ℕ) → IsShort (reason_phrase n)
phrases n =
    either (n == 100) (short (lit≤ tt)) (
    either (n == 101) (short (lit≤ tt)) (
    either (n == 102) (short (lit≤ tt)) (
    either (n == 103) (short (lit≤ tt)) (
    either (n == 200) (short (lit≤ tt)) (
    either (n == 201) (short (lit≤ tt)) (
    either (n == 202) (short (lit≤ tt)) (
    either (n == 203) (short (lit≤ tt)) (
    either (n == 204) (short (lit≤ tt)) (
    either (n == 205) (short (lit≤ tt)) (
    either (n == 206) (short (lit≤ tt)) (
    either (n == 207) (short (lit≤ tt)) (
    either (n == 208) (short (lit≤ tt)) (
    either (n == 226) (short (lit≤ tt)) (
    either (n == 300) (short (lit≤ tt)) (
    either (n == 301) (short (lit≤ tt)) (
    either (n == 302) (short (lit≤ tt)) (
    either (n == 303) (short (lit≤ tt)) (
    either (n == 304) (short (lit≤ tt)) (
    either (n == 305) (short (lit≤ tt)) (
    either (n == 307) (short (lit≤ tt)) (
    either (n == 308) (short (lit≤ tt)) (
    either (n == 400) (short (lit≤ tt)) (
    either (n == 401) (short (lit≤ tt)) (
    either (n == 402) (short (lit≤ tt)) (
    either (n == 403) (short (lit≤ tt)) (
    either (n == 404) (short (lit≤ tt)) (
    either (n == 405) (short (lit≤ tt)) (
    either (n == 406) (short (lit≤ tt)) (
    either (n == 407) (short (lit≤ tt)) (
    either (n == 408) (short (lit≤ tt)) (
    either (n == 409) (short (lit≤ tt)) (
    either (n == 410) (short (lit≤ tt)) (
    either (n == 411) (short (lit≤ tt)) (
    either (n == 412) (short (lit≤ tt)) (
    either (n == 413) (short (lit≤ tt)) (
    either (n == 414) (short (lit≤ tt)) (
    either (n == 415) (short (lit≤ tt)) (
    either (n == 416) (short (lit≤ tt)) (
    either (n == 417) (short (lit≤ tt)) (
    either (n == 418) (short (lit≤ tt)) (
    either (n == 421) (short (lit≤ tt)) (
    either (n == 422) (short (lit≤ tt)) (
    either (n == 423) (short (lit≤ tt)) (
    either (n == 424) (short (lit≤ tt)) (
    either (n == 425) (short (lit≤ tt)) (
    either (n == 426) (short (lit≤ tt)) (
    either (n == 428) (short (lit≤ tt)) (
    either (n == 429) (short (lit≤ tt)) (
    either (n == 431) (short (lit≤ tt)) (
    either (n == 451) (short (lit≤ tt)) (
    either (n == 500) (short (lit≤ tt)) (
    either (n == 501) (short (lit≤ tt)) (
    either (n == 502) (short (lit≤ tt)) (
    either (n == 503) (short (lit≤ tt)) (
    either (n == 504) (short (lit≤ tt)) (
    either (n == 505) (short (lit≤ tt)) (
    either (n == 506) (short (lit≤ tt)) (
    either (n == 507) (short (lit≤ tt)) (
    either (n == 508) (short (lit≤ tt)) (
    either (n == 510) (short (lit≤ tt)) (
    either (n == 511) (short (lit≤ tt)) (
    short (lit≤ tt)))))))))))))))))))))))))))))))))))))))))))))))))))))))))))))))

pub short-phrase : (n : ℕ) → length (unwrap_or (reason_phrase n) []) ≤ 40
short-phrase n = (phrases n).len
