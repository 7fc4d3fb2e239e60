mod Commands
mod Courses
mod RunExits
mod Causes
mod ReadExits
mod JudgeExits
mod StepExits
mod AskedExits
