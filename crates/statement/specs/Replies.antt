-- What a call's result means: document 01's number of a refusal, or the values that the call returns. The contracts use these. Assumes nothing.
use Rattle.std.specs.Prelude.{Bool, true, false, List, ℕ, zero, suc, eqb, Result, Ok, Err}
use Rattle.base.specs.Lists.{any}
use Rattle.statement.specs.declared.Priced.{Priced}
use Rattle.statement.specs.declared.Compared.{Compared}
use Rattle.statement.specs.declared.Report.{Report as CallReport}
use Rattle.statement.specs.declared.Refusal.{Refusal}
use Rattle.statement.specs.declared.Refusal.TheVariants.{Oversize, Stray, CostList, Spoilt, UnknownAnswer, UnknownPackage, UnknownItem, ShortWork, Spent, Full}
use Rattle.statement.specs.declared.Refusal.TheVariants.{Uncountable, PastTheEnd, Nothing, Absent, ShortPage, StrayOptional, AllOptional, Disordered, Overlap, NotRising}
use Rattle.statement.specs.declared.Refusal.TheVariants.{Cut, Mark, Version, Check, Size, SchoolTwice, StrayPackage, PackageTwice, StraySlot, WideSite, OptionalSlots}

-- the number of a refusal, by which docs/REFUSALS.md lists them
abbrev pub number_of : Refusal → ℕ
number_of Oversize = 1
number_of Stray = 2
number_of CostList = 3
number_of Spoilt = 4
number_of UnknownAnswer = 5
number_of UnknownPackage = 6
number_of UnknownItem = 7
number_of ShortWork = 8
number_of Spent = 9
number_of Full = 10
number_of Uncountable = 11
number_of PastTheEnd = 12
number_of Nothing = 13
number_of Absent = 14
number_of ShortPage = 15
number_of Cut = 20
number_of Mark = 21
number_of Version = 22
number_of Check = 23
number_of Size = 24
number_of SchoolTwice = 25
number_of StrayPackage = 26
number_of PackageTwice = 27
number_of StrayOptional = 29
number_of AllOptional = 30
number_of StraySlot = 31
number_of WideSite = 32
number_of OptionalSlots = 33
number_of Disordered = 34
number_of Overlap = 35
number_of NotRising = 36

-- how a call ended: refused with document 01's number, or with the values of type A that it returns
pub data Reply (A : Type 0) : Type 0 where
  refused : ℕ → Reply A
  gives : A → Reply A

-- the reply of a call whose refusal is n (0: none) and whose values would be v
abbrev pub reply : {A : Type 0} → ℕ → A → Reply A
reply zero v = gives v
reply (suc n) v = refused (suc n)

-- the reply is a refusal with one of the numbers ns
unfoldable pub says : {A : Type 0} → List ℕ → Reply A → Bool
says ns (refused n) = any (eqb n) ns
says ns (gives v) = false

-- it is none, or one with a number of ns
unfoldable pub says_only : {A : Type 0} → List ℕ → Reply A → Bool
says_only ns (refused n) = any (eqb n) ns
says_only ns (gives v) = true

-- the number of the refusal that a result is, 0 where it is none
abbrev pub refusal_of : {A : Type 0} → Result A Refusal → ℕ
refusal_of (Ok v) = 0
refusal_of (Err e) = number_of e

-- what a result says. Count gives how many timetables, pick and measure how many packages, place the timetable's place, withdraw how many nodes are left, the
-- soundness check no value
abbrev pub reply_of : {A : Type 0} → Result A Refusal → Reply A
reply_of (Ok v) = gives v
reply_of (Err e) = refused (number_of e)

-- cheapest: how many packages were written, and their cost
abbrev pub cheapest_reply : Result Priced Refusal → Reply (ℕ × ℕ)
cheapest_reply (Ok p) = gives (p.packages, p.cost)
cheapest_reply (Err e) = refused (number_of e)

-- closest: how many packages were written, and the difference
abbrev pub closest_reply : Result Compared Refusal → Reply (ℕ × ℕ)
closest_reply (Ok p) = gives (p.packages, p.difference)
closest_reply (Err e) = refused (number_of e)

-- what a call that makes an answer reports: the answer's number, its steps and the nodes that it made
pub record Report : Type 0 where
  pub outcome : Reply ℕ
  pub steps : ℕ
  pub made : ℕ

abbrev pub report_of : CallReport → Report
report_of r = record { outcome = reply_of r.outcome; steps = r.steps; made = r.made }
