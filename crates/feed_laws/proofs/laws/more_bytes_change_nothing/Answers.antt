use Rattle.feed_model.specs.FeedReading.{bad_tag, bad_width, too_long}
use Rattle.feed_laws.proofs.Cut.{more_whole, more_fault}
use Rattle.feed_laws.proofs.Steady.{steady_sample}
use Rattle.feed_laws.proofs.laws.more_bytes_change_nothing.Goals as goal

pub returns-clause-all : goal.returns-clause-all
returns-clause-all c = λ shape order b more h. (steady_sample shape order).more b more h

pub returns-clause-whole : goal.returns-clause-whole
returns-clause-whole c = more_whole

pub returns-clause-tag : goal.returns-clause-tag
returns-clause-tag c = λ shape order b more left byte e. more_fault shape order b more (bad_tag left byte) (λ wrong. absurd cc) e

pub returns-clause-width : goal.returns-clause-width
returns-clause-width c = λ shape order b more left byte e. more_fault shape order b more (bad_width left byte) (λ wrong. absurd cc) e

pub returns-clause-long : goal.returns-clause-long
returns-clause-long c = λ shape order b more left e. more_fault shape order b more (too_long left) (λ wrong. absurd cc) e
